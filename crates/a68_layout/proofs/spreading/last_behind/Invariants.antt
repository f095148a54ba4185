use Rattle.std.proofs.Common.{◌≡◌, ◌≤◌, ◌+◌, drop}
use Rattle.a68_layout.specs.Stretches.{capped}
use Rattle.a68_layout.specs.Views.{last_offset}
use Rattle.a68_layout.specs.Widths.{most_cells}
use Rattle.a68_layout.proofs.spreading.last_behind.Given as goal

abbrev pub invariant-loop-dim : goal.invariant-loop-dim
invariant-loop-dim l = record {
  few : l.last ≤ most_cells + 1;
  sum : capped (l.last + last_offset (drop l.dim-index l.dims)) ≡ capped (l.cell + last_offset l.dims);
}
