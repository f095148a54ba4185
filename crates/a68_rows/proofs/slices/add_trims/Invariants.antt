use Rattle.std.proofs.Common.{◌≡◌, ◌≤◌, ◌++◌, drop, length}
use Rattle.a68_acts.specs.Rowing.{trims_of}
use Rattle.a68_rows.proofs.slices.add_trims.Given as goal

abbrev pub invariant-loop-form : goal.invariant-loop-form
invariant-loop-form l = record {
  within : l.from ≤ length l.ints;
  made : l.trims.items ++ trims_of (drop l.form-index l.forms) (drop l.from l.ints) ≡ trims_of l.forms l.ints;
}
