use Rattle.std.proofs.Common.{◌≤◌, ◌+◌, drop}
use Rattle.a68_modes.specs.Widths.{most_cells}
use Rattle.a68_modes.proofs.Measuring.{IsSum}
use Rattle.a68_modes.proofs.widths.fields_known.Given as goal

abbrev pub invariant-loop-field : goal.invariant-loop-field
invariant-loop-field l = record {
  fits : l.all.cells ≤ most_cells + 1;
  sum : IsSum l.shapes l.all (drop l.field-index l.fields) l.fields;
}
