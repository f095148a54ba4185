use Rattle.a68_ranges.specs.Standard.{AreWritten}
use Rattle.a68_ranges.proofs.written.written_of.Given as goal

abbrev pub invariant-loop-definition : goal.invariant-loop-definition
invariant-loop-definition l = AreWritten l.tree l.definition l.written.items
