use Rattle.std.proofs.Common.{◌≡◌, ◌+◌, ◌≤◌, length, drop}
use Rattle.a68_layout.specs.Rooms.{all_inwards}
use Rattle.a68_layout.specs.Stretches.{capped}
use Rattle.a68_layout.specs.Wanting.{rows_of}
use Rattle.a68_layout.specs.Widths.{most_cells}
use Rattle.a68_layout.proofs.wanted.count_level.Given as goal

abbrev pub invariant-loop-row : goal.invariant-loop-row
invariant-loop-row l = record {
  fits : l.counted ≤ most_cells + 1;
  sum : capped (l.counted + length (all_inwards 1 (rows_of l.modes (drop l.row-index l.rows)))) ≡ capped (l.fn.counted + length (all_inwards 1 (rows_of l.modes l.rows)));
}
