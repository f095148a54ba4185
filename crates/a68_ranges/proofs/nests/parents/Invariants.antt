use Rattle.a68_ranges.specs.Parents.{AreParentsBefore}
use Rattle.a68_ranges.proofs.nests.parents.Given as goal

abbrev pub invariant-loop-node : goal.invariant-loop-node
invariant-loop-node l = AreParentsBefore l.tree l.node l.parents.items
