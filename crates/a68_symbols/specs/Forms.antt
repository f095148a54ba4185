-- The forms that stretches of a text can have: symbols, layout, comments and pragmats; and those that have no end.
use Rattle.std.specs.Prelude.{◌≡◌, ◌≢◌, ℕ, ◌+◌, ◌-◌, ◌<◌, ◌≤◌, ◌⊎◌, Bool, true, false, List, ◌∷◌, length, slice_index, take, drop}
use Rattle.a68_denote.specs.Strings.{StandFor, IsQuoted}
use Rattle.a68_symbols.specs.declared.form.StretchForm.{StretchForm}
use Rattle.a68_symbols.specs.declared.form.StretchForm.TheVariants.{Layout, SharpComment, WordComment, OpenComment, Word, Tag, Number, Quoted, OpenString, Mark}
use Rattle.a68_symbols.specs.Bytes.{is_layout, is_capital, is_small, is_digit, in_word, in_tag, ends_tag}
use Rattle.a68_symbols.specs.Words.{is_opener}
use Rattle.a68_symbols.specs.Marks.{is_mark}

-- each byte of the text from a to b, without b, passes
abbrev pub Each : (ℕ → Bool) → List ℕ → ℕ → ℕ → Type 0
Each passes text a b = (k : ℕ) → a ≤ k → k < b → passes (slice_index text k) ≡ true

-- a byte that passes first, then others that do, the last of which passes a test of its own
pub record IsRun (first inner last : ℕ → Bool) (text : List ℕ) (n : ℕ) : Type 0 where
  pub some : 0 < n
  pub begins : first (slice_index text 0) ≡ true
  pub goes_on : Each inner text 1 n
  pub ends : last (slice_index text (n - 1)) ≡ true

-- from one # to the next
pub record IsSharpComment (text : List ℕ) (n : ℕ) : Type 0 where
  pub two : 2 ≤ n
  pub opens : slice_index text 0 ≡ 35
  pub inside : (k : ℕ) → 1 ≤ k → k < n - 1 → slice_index text k ≢ 35
  pub closes : slice_index text (n - 1) ≡ 35

-- a # that no other follows, and the rest of the text
pub record IsOpenComment (text : List ℕ) (n : ℕ) : Type 0 where
  pub some : 0 < n
  pub opens : slice_index text 0 ≡ 35
  pub inside : (k : ℕ) → 1 ≤ k → k < n → slice_index text k ≢ 35
  pub whole : n ≡ length text

-- the bytes from a to b are a whole run of capitals and digits, and it begins with a capital
pub record IsWholeWord (text : List ℕ) (a b : ℕ) : Type 0 where
  pub some : a < b
  pub within : b ≤ length text
  pub begins : is_capital (slice_index text a) ≡ true
  pub goes_on : Each in_word text a b
  pub alone : (a ≡ 0) ⊎ (in_word (slice_index text (a - 1)) ≡ false)
  pub ends : (b ≡ length text) ⊎ (in_word (slice_index text b) ≡ false)

-- the text's first `width` bytes stand once more at a, as a whole word
pub record StandsAgain (text : List ℕ) (width a : ℕ) : Type 0 where
  pub whole : IsWholeWord text a (a + width)
  pub same : take width (drop a text) ≡ take width text

-- a word of `width` bytes that opens a comment or a pragmat, and the first equal word behind it
pub record IsWordComment (text : List ℕ) (n : ℕ) : Type 0 where
  pub width : ℕ
  pub opens : IsWholeWord text 0 width
  pub opener : is_opener (take width text) ≡ true
  pub at : ℕ
  pub behind : width ≤ at
  pub closes : StandsAgain text width at
  pub first : (a : ℕ) → width ≤ a → a < at → StandsAgain text width a → ⊥
  pub whole : n ≡ at + width

-- a quote and the items behind it, up to the end of the line or of the text
pub record IsOpenString (text : List ℕ) (n : ℕ) : Type 0 where
  pub items : List ℕ
  pub bytes : List ℕ
  pub stand_for : StandFor items bytes
  pub spelled : take n text ≡ 34 ∷ items
  pub whole : (n ≡ length text) ⊎ (slice_index text n ≡ 10)

-- the first n bytes of the text are of that form
abbrev pub Is : StretchForm → List ℕ → ℕ → Type 0
Is Layout text n = (n ≡ 1) × (is_layout (slice_index text 0) ≡ true)
Is SharpComment text n = IsSharpComment text n
Is WordComment text n = IsWordComment text n
Is OpenComment text n = IsOpenComment text n
Is Word text n = IsRun is_capital in_word in_word text n
Is Tag text n = IsRun is_small in_tag ends_tag text n
Is Number text n = IsRun is_digit in_tag ends_tag text n
Is Quoted text n = IsQuoted (take n text)
Is OpenString text n = IsOpenString text n
Is Mark text n = is_mark (take n text) ≡ true

-- the longest stretch from the front of the text that has a form
pub record Longest (text : List ℕ) (f : StretchForm) (n : ℕ) : Type 0 where
  pub is : Is f text n
  pub within : n ≤ length text
  pub longest : (g : StretchForm) (m : ℕ) → m ≤ length text → Is g text m → m ≤ n

-- no stretch from the front of the text has a form
abbrev pub NoForm : List ℕ → Type 0
NoForm text = (g : StretchForm) (m : ℕ) → m ≤ length text → Is g text m → ⊥
