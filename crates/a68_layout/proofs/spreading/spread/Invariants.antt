use Rattle.std.proofs.Common.{◌≡◌, ◌≤◌, length, drop}
use Rattle.a68_layout.specs.Views.{element_cells}
use Rattle.a68_layout.proofs.spreading.spread.Given as goal

abbrev pub invariant-loop-at : goal.invariant-loop-at
invariant-loop-at l = record {
  within : l.at ≤ length l.dims;
  cells : l.cells.items ≡ element_cells (drop l.at l.dims) l.base;
}

abbrev pub decreases-loop-at : goal.decreases-loop-at
decreases-loop-at l = l.at
