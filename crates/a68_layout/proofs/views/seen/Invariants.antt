use Rattle.std.proofs.Common.{◌≡◌, ◌≤◌, ◌+◌, drop}
use Rattle.a68_layout.specs.Stretches.{joined}
use Rattle.a68_layout.specs.Views.{seen_from}
use Rattle.a68_layout.specs.Widths.{most_cells}
use Rattle.a68_layout.proofs.views.seen.Given as goal

abbrev pub invariant-loop-i : goal.invariant-loop-i
invariant-loop-i l = record {
  fits : l.cell ≤ most_cells + 1;
  rest : joined l.cell l.kept.items (seen_from (drop l.i l.dims) (drop l.i l.trims))
      ≡ joined l.fn.cell l.fn.kept.items (seen_from l.dims l.trims);
}
