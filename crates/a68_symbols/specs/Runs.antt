-- Inner: the headline does not rest on this file.
-- What the functions that measure one form give.
use Rattle.std.specs.Prelude.{◌≡◌, ◌≢◌, ℕ, ◌-◌, ◌<◌, ◌≤◌, ◌⊎◌, true, false, ◌||◌, List, [], ◌∷◌, length, slice_index, take, drop, nat_eq, if◌then◌else◌}
use Rattle.a68_denote.specs.Strings.{StandFor}
use Rattle.a68_symbols.specs.Bytes.{in_word, in_tag, ends_tag}
use Rattle.a68_symbols.specs.Forms.{Each, StandsAgain}
use Rattle.a68_symbols.specs.Marks.{is_mark}

-- capitals and digits stand from a to b, and no further
pub record IsRunOfCapitals (text : List ℕ) (a b : ℕ) : Type 0 where
  pub low : a ≤ b
  pub within : b ≤ length text
  pub goes_on : Each in_word text a b
  pub ends : (b ≡ length text) ⊎ (in_word (slice_index text b) ≡ false)

-- n is the length of the longest tag or number
pub record IsLongestTag (text : List ℕ) (n : ℕ) : Type 0 where
  pub some : 0 < n
  pub within : n ≤ length text
  pub goes_on : Each in_tag text 1 n
  pub ends : (n ≡ 1) ⊎ (ends_tag (slice_index text (n - 1)) ≡ true)
  pub longest : (m : ℕ) → n < m → m ≤ length text → Each in_tag text 1 m → ends_tag (slice_index text (m - 1)) ≡ true → ⊥

-- the first n bytes behind the first byte hold no #
abbrev pub NoSharp : List ℕ → ℕ → Type 0
NoSharp text n = (k : ℕ) → 1 ≤ k → k < n → slice_index text k ≢ 35

-- the first # behind the first byte stands at n
pub record IsNextSharp (text : List ℕ) (n : ℕ) : Type 0 where
  pub low : 1 ≤ n
  pub within : n < length text
  pub inside : NoSharp text n
  pub is : slice_index text n ≡ 35

-- the first place behind the text's first word at which it stands again
pub record IsFirstAgain (text : List ℕ) (width at : ℕ) : Type 0 where
  pub behind : width ≤ at
  pub closes : StandsAgain text width at
  pub first : (a : ℕ) → width ≤ a → a < at → StandsAgain text width a → ⊥

-- the text's first word stands nowhere again
abbrev pub NeverAgain : List ℕ → ℕ → Type 0
NeverAgain text width = (a : ℕ) → width ≤ a → StandsAgain text width a → ⊥

-- how many bytes the item of a string has that begins the text; 0 where none does
abbrev pub item_width : List ℕ → ℕ
item_width [] = 0
item_width (b ∷ []) = if nat_eq b 34 || nat_eq b 10 then 0 else 1
item_width (b ∷ c ∷ more) = if nat_eq b 34 then (if nat_eq c 34 then 2 else 0) else (if nat_eq b 10 then 0 else 1)

-- items stand from behind the first byte to n, and no further
pub record AreItems (text : List ℕ) (n : ℕ) : Type 0 where
  pub low : 1 ≤ n
  pub within : n ≤ length text
  pub bytes : List ℕ
  pub stand_for : StandFor (take (n - 1) (drop 1 text)) bytes
  pub ends : item_width (drop n text) ≡ 0

-- n is the length of the longest mark; 0 where there is none
pub record IsLongestMark (text : List ℕ) (n : ℕ) : Type 0 where
  pub within : n ≤ length text
  pub is : (n ≡ 0) ⊎ (is_mark (take n text) ≡ true)
  pub longest : (m : ℕ) → n < m → m ≤ length text → is_mark (take m text) ≡ true → ⊥
