-- Inner: the headline does not rest on this file.
-- Clocks: how many entries are known, by strands; and tables of clocks.
use Rattle.std.specs.Prelude.{◌≡◌, ℕ, Bool, List, [], max, slice_index, slice_index_or, if◌then◌else◌}

-- the clock under a key; where there is none it is at its beginning
abbrev pub clock_at : List (List ℕ) → ℕ → List ℕ
clock_at clocks key = slice_index_or clocks key []

-- the later of two clocks, strand by strand
abbrev pub IsLater : (old other new : List ℕ) → Type 0
IsLater old other new = (k : ℕ) → slice_index new k ≡ max (slice_index old k) (slice_index other k)

-- one time of a clock is put forward
abbrev pub IsSet : (old : List ℕ) (key time : ℕ) (new : List ℕ) → Type 0
IsSet old key time new = (slice_index new key ≡ time) × ((k : ℕ) → (k ≡ key → ⊥) → slice_index new k ≡ slice_index old k)

-- one time of the clock under a key is set, and all other clocks stay
abbrev pub IsSetIn : (old : List (List ℕ)) (key strand time : ℕ) (new : List (List ℕ)) → Type 0
IsSetIn old key strand time new = IsSet (clock_at old key) strand time (clock_at new key)
    × ((other k : ℕ) → (other ≡ key → ⊥) → slice_index (clock_at new other) k ≡ slice_index (clock_at old other) k)

-- the clocks under the keys that pass the test are put forward to this one, and no others
abbrev pub AreTold : (test : ℕ → Bool) (old : List (List ℕ)) (now : List ℕ) (new : List (List ℕ)) → Type 0
AreTold test old now new = (key k : ℕ) → slice_index (clock_at new key) k
    ≡ (if test key then max (slice_index (clock_at old key) k) (slice_index now k) else slice_index (clock_at old key) k)
