use Rattle.a68_definitions.specs.Tags.{AreTagsBefore}
use Rattle.a68_definitions.proofs.applied.applied_tags.Given as goal

abbrev pub invariant-loop-node : goal.invariant-loop-node
invariant-loop-node l = AreTagsBefore l.tree l.node l.items.items
