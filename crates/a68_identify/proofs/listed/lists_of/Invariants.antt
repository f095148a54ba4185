use Rattle.a68_identify.specs.Operators.{AreListedBefore}
use Rattle.a68_identify.proofs.listed.lists_of.Given as goal

abbrev pub invariant-loop-definition : goal.invariant-loop-definition
invariant-loop-definition l = AreListedBefore l.tree l.of l.definition l.lists.items
