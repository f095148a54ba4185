use Rattle.a68_equiv.specs.Graph.{HasCode}
use Rattle.a68_partition.specs.Rounds.{SoFar}
use Rattle.a68_equiv.proofs.graph.number_constructors.Given as goal

abbrev pub invariant-loop-i : goal.invariant-loop-i
invariant-loop-i l = SoFar (HasCode l.modes) l.table.entries l.heads.items l.i
