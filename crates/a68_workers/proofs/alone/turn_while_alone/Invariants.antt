use Rattle.std.specs.Prelude.{◌-◌, length}
use Rattle.a68_workers.specs.Runs.{GoesFrom, IsAtRest}
use Rattle.a68_workers.proofs.alone.turn_while_alone.Given as goal

abbrev pub invariant-alone : goal.invariant-alone
invariant-alone g l = record {
  goes : GoesFrom l.initial.world l.world;
  rest : IsAtRest l.world;
}

abbrev pub decreases-alone : goal.decreases-alone
decreases-alone g l = l.world.fuel - length l.world.entries
