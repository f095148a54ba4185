-- Inner: the headline does not rest on this file.
-- Rows: what stands within each number of a graph.
use Rattle.std.specs.Prelude.{◌≡◌, ◌<◌, ℕ, List, [], length, slice_index, slice_index_or, Bool, true, false}
use Rattle.std.specs.List.{Contains}

-- what stands in a row: all at one place, or each at its own
abbrev pub Stands : Bool → List ℕ → ℕ → ℕ → Type 0
Stands true items place w = (place ≡ 0) × Contains items w
Stands false items place w = (place < length items) × (slice_index items place ≡ w)

abbrev pub row_at : List (Bool × List ℕ) → ℕ → Bool × List ℕ
row_at rows v = slice_index_or rows v (false, [])

abbrev pub StandsIn : List (Bool × List ℕ) → ℕ → ℕ → ℕ → Type 0
StandsIn rows v place w = Stands (row_at rows v).0 (row_at rows v).1 place w
