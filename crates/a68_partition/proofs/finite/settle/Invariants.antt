use Rattle.a68_partition.specs.Finite.{Ended}
use Rattle.a68_partition.proofs.finite.settle.Given as goal

abbrev pub invariant-steps : goal.invariant-steps
invariant-steps l = Ended l.heads l.rows l.table.entries l.classes.items
