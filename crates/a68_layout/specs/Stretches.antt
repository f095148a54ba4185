-- Inner: the headline does not rest on this file.
-- Where a part begins, counted up to one more cell than there may be.
use Rattle.std.specs.Prelude.{ℕ, ℤ, ◌+◌, min, List, ◌++◌, Ok, Err, nat_lt, if◌then◌else◌}
use Rattle.std.specs.declared.result.Result.{Result}
use Rattle.a68_layout.specs.Views.{Taken, Seen, behind, is_outside}
use Rattle.a68_layout.specs.Widths.{most_cells}
use Rattle.a68_layout.specs.declared.stretches.Stretch.{Stretch}
use Rattle.a68_values.specs.declared.act.FaultKind.{FaultKind}
use Rattle.a68_values.specs.declared.act.FaultKind.TheVariants as fault
use Rattle.a68_values.specs.declared.held.Dim.{Dim}

abbrev pub capped : ℕ → ℕ
capped n = min (most_cells + 1) n

-- what is taken of a dimension whose first element is in this cell
abbrev pub stretch : (cell : ℕ) → Taken → Result Stretch FaultKind
stretch cell (Ok part) = Ok (record { cell = capped (cell + part.0); dim = part.1 })
stretch cell (Err kind) = Err kind

-- what the rest of the dimensions adds to the part so far
abbrev pub joined : (cell : ℕ) → List Dim → Seen → Seen
joined cell kept (Ok seen) = Ok (capped (cell + seen.0), kept ++ seen.1)
joined cell kept (Err kind) = Err kind

-- the element of a dimension whose first element is in this cell
abbrev pub subscript : (cell : ℕ) → Dim → ℤ → Result ℕ FaultKind
subscript cell dim i = if is_outside dim i then Err fault.Bounds else Ok (capped (cell + behind dim i))

-- the first cell of the element that the rest of the dimensions tells
abbrev pub found : (cell : ℕ) → Seen → Result ℕ FaultKind
found cell (Ok seen) = if nat_lt most_cells (cell + seen.0) then Err fault.Cells else Ok (cell + seen.0)
found cell (Err kind) = Err kind
