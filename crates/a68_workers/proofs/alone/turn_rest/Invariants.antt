use Rattle.std.specs.Prelude.{◌-◌, length}
use Rattle.a68_workers.specs.Runs.{GoesFrom, IsAtRest, TookTurns}
use Rattle.a68_workers.proofs.alone.turn_rest.Given as goal

abbrev pub invariant-loop-strand : goal.invariant-loop-strand
invariant-loop-strand g l = record {
  goes : GoesFrom l.initial.world l.world;
  took : TookTurns l.initial.world l.world;
  rest : IsAtRest l.world;
}

abbrev pub decreases-loop-strand : goal.decreases-loop-strand
decreases-loop-strand g l = l.world.fuel - length l.world.entries
