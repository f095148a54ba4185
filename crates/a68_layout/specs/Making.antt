-- Inner: the headline does not rest on this file.
-- What a step does that makes cells.
use Rattle.std.specs.Prelude.{◌≡◌, ℕ, ◌<◌, ◌≤◌, List, ◌++◌, Ok, Err}
use Rattle.std.specs.declared.result.Result.{Result}
use Rattle.a68_layout.specs.Rooms.{Room, own_cells, reach}
use Rattle.a68_layout.specs.Widths.{most_cells}
use Rattle.a68_layout.specs.declared.types.LayoutStop.{LayoutStop}
use Rattle.a68_layout.specs.declared.types.LayoutStop.TheVariants.{Fault, NoMemory}
use Rattle.a68_values.specs.declared.act.FaultKind.TheVariants as fault
use Rattle.a68_values.specs.declared.held.Held.{Held}

-- Cells are added for these, and elements of rows are reckoned with behind `next`. The fault comes where these would lie
-- above the cells that there may be.
abbrev pub Makes : Result (Unit {0}) LayoutStop → (cells : List Held) (next : ℕ) → (cells' : List Held) (next' : ℕ) → List Room → Type 0
Makes (Ok u) cells next cells' next' rs = (cells' ≡ cells ++ own_cells next rs) × (next' ≡ reach next rs) × (next ≤ most_cells → next' ≤ most_cells)
Makes (Err (Fault kind)) cells next cells' next' rs = (kind ≡ fault.Cells) × (most_cells < reach next rs)
Makes (Err NoMemory) cells next cells' next' rs = Unit {0}
