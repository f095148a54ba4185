use Rattle.a68_ranges.specs.Tables.{AreNestsBefore}
use Rattle.a68_ranges.proofs.nests.nests_of.Given as goal

abbrev pub invariant-loop-id : goal.invariant-loop-id
invariant-loop-id l = AreNestsBefore l.tree l.id l.about.items l.layers.items
