use Rattle.std.proofs.Common.{◌≤◌, drop}
use Rattle.a68_layout.specs.Measuring.{most_needs}
use Rattle.a68_layout.proofs.Measures.{IsSum}
use Rattle.a68_layout.proofs.measured.fields_known.Given as goal

abbrev pub invariant-loop-field : goal.invariant-loop-field
invariant-loop-field l = record {
  fits : l.all.needs ≤ most_needs;
  sum : IsSum l.modes l.all (drop l.field-index l.fields) l.fields;
}
