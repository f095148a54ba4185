use Rattle.a68_ranges.specs.Signed.{AreOperatorsBefore}
use Rattle.a68_ranges.proofs.operators.add_ranges.Given as goal

abbrev pub invariant-loop-range : goal.invariant-loop-range
invariant-loop-range l = AreOperatorsBefore l.tree l.index.entries l.range
