use Rattle.std.proofs.Common.{◌≤◌, length, drop}
use Rattle.a68_layout.specs.Rooms.{all_inwards}
use Rattle.a68_layout.specs.Wanting.{rows_of}
use Rattle.a68_layout.specs.Widths.{most_cells}
use Rattle.a68_layout.proofs.Made.{IsRest}
use Rattle.a68_layout.proofs.wanted.make_level.Given as goal

abbrev pub invariant-loop-row : goal.invariant-loop-row
invariant-loop-row l = record {
  few : length (all_inwards 1 (rows_of l.modes (drop l.row-index l.rows))) ≤ most_cells;
  rest : IsRest l.made.cells.items l.made.next (all_inwards 1 (rows_of l.modes (drop l.row-index l.rows)))
      l.fn.made.cells.items l.fn.made.next (all_inwards 1 (rows_of l.modes l.rows));
}
