-- Inner: the headline does not rest on this file.
-- Sets of numbers.
use Rattle.std.specs.Prelude.{◌≡◌, ◌<◌, ◌≤◌, ◌+◌, ◌*◌, ◌/◌, ◌%◌, ◌||◌, ◌==◌, ℕ, Bool, true, false, List, slice_index, if◌then◌else◌}
use Rattle.std.specs.Int.{bit_at}

-- whether a number is in the set that has these words: each of them has a bit for 64 numbers
unfoldable pub is_marked : List ℕ → ℕ → Bool
is_marked words n = bit_at (slice_index words (n / 64)) (n % 64) == 1

-- the first number from one on that is not in the set, or the end of the search where there is none below it
pub record FirstOther (words : List ℕ) (from to n : ℕ) : Type 0 where
  pub from_on : from ≤ n
  pub within : n ≤ to
  pub other : n < to → is_marked words n ≡ false
  pub marked : (k : ℕ) → from ≤ k → k < n → is_marked words k ≡ true

-- the set with one number more
abbrev pub MarksToo : (old : List ℕ) → ℕ → (new : List ℕ) → Type 0
MarksToo old n new = (k : ℕ) → is_marked new k ≡ ((k == n) || is_marked old k)

-- the set without this number
abbrev pub MarksLess : (old : List ℕ) → ℕ → (new : List ℕ) → Type 0
MarksLess old n new = (k : ℕ) → is_marked new k ≡ (if k == n then false else is_marked old k)

-- the same set
abbrev pub MarksAsWere : (old new : List ℕ) → Type 0
MarksAsWere old new = (k : ℕ) → is_marked new k ≡ is_marked old k

-- so many numbers of the set, from one on; none only where that one is not in it
pub record RunOfMarks (words : List ℕ) (from count : ℕ) : Type 0 where
  pub none : count ≡ 0 → is_marked words from ≡ false
  pub marked : (k : ℕ) → from ≤ k → k < from + count → is_marked words k ≡ true

-- of each word whose number is in the other set all numbers are in this one
abbrev pub AreFull : (words full : List ℕ) → Type 0
AreFull words full = (j i : ℕ) → is_marked full j ≡ true → i < 64 → is_marked words (64 * j + i) ≡ true
