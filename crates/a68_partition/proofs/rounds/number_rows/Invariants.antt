use Rattle.a68_partition.specs.Rounds.{HasRowKey}
use Rattle.a68_partition.specs.Rounds.{SoFar}
use Rattle.a68_partition.proofs.rounds.number_rows.Given as goal

abbrev pub invariant-loop-i : goal.invariant-loop-i
invariant-loop-i l = SoFar (HasRowKey l.rows l.classes) l.table.entries l.next.items l.i
