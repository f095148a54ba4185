use Rattle.a68_partition.specs.Finite.{Ended}
use Rattle.a68_partition.proofs.finite.walk_all.Given as goal

abbrev pub invariant-roots : goal.invariant-roots
invariant-roots l = Ended l.heads l.rows l.table.entries l.classes.items
