use Rattle.std.proofs.Common.{◌≤◌, length, drop}
use Rattle.a68_layout.specs.Rooms.{all_inwards}
use Rattle.a68_layout.specs.Wanting.{rows_of}
use Rattle.a68_layout.specs.Widths.{most_cells}
use Rattle.a68_layout.proofs.Founds.{IsBelow}
use Rattle.a68_layout.proofs.wanted.next_level.Given as goal

abbrev pub invariant-loop-row : goal.invariant-loop-row
invariant-loop-row l = record {
  few : length (all_inwards 1 (rows_of l.modes (drop l.row-index l.rows))) ≤ most_cells;
  below : IsBelow l.modes l.next.items (drop l.row-index l.rows) l.rows;
}
