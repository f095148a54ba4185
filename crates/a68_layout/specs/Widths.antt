-- How many cells a value of a mode takes, and how rows lie in them.
use Rattle.std.specs.Prelude.{ℕ, suc, ℤ, ◌+◌, ◌*◌, ◌-ℤ◌, nat_abs, min, List, [], ◌∷◌, nat_eq, int_lt, if◌then◌else◌}
pub use Rattle.a68_modes.specs.Widths.{most_cells, width_of_fields, width_by, width_within, width_of}
use Rattle.a68_modes.specs.declared.shape.Shape.{Shape}
use Rattle.a68_values.specs.declared.held.Dim.{Dim}

-- the same, and one more than there may be where it is more
unfoldable pub cells_of : List Shape → (mode : ℕ) → ℕ
cells_of modes m = min (most_cells + 1) (width_of modes m)

-- how many subscripts lie from a lower bound to an upper one (Report, 2.1.3.4)
abbrev pub between : (lower upper : ℤ) → ℕ
between lower upper = if int_lt upper lower then 0 else suc (nat_abs (upper -ℤ lower))

-- how many elements a row with these bounds has
abbrev pub elements_of : List (ℤ × ℤ) → ℕ
elements_of [] = 1
elements_of (b ∷ bounds) = between b.0 b.1 * elements_of bounds

abbrev pub strides : (width : ℕ) → List (ℤ × ℤ) → List Dim
strides width [] = []
strides width (b ∷ bounds) = record { lower = b.0; upper = b.1; stride = width * elements_of bounds } ∷ strides width bounds

-- The dimensions of a new row whose elements take so many cells each: the last subscript runs fastest (Report, 2.1.3.4). A
-- row without elements has strides of 0 (own).
abbrev pub dims_of : (width : ℕ) → List (ℤ × ℤ) → List Dim
dims_of width bounds = strides (if nat_eq (elements_of bounds) 0 then 0 else width) bounds
