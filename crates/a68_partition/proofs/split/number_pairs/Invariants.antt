use Rattle.a68_partition.specs.Rounds.{SoFar}
use Rattle.a68_partition.proofs.Splitting.{PairKey}
use Rattle.a68_partition.proofs.split.number_pairs.Given as goal

abbrev pub invariant-loop-i : goal.invariant-loop-i
invariant-loop-i l = SoFar (PairKey l.heads l.classes) l.table.entries l.next.items l.i
