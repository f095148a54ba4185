use Rattle.a68_partition.proofs.Splitting.{Halfway}
use Rattle.a68_partition.proofs.split.split.Given as goal

abbrev pub invariant-loop-v : goal.invariant-loop-v
invariant-loop-v l = Halfway l.unions l.rows l.classes l.by l.moved.items l.next.items l.v
