use Rattle.std.proofs.Common.{[], ◌∷◌}
use Rattle.a68_workers.specs.Runs.{GoesFrom, IsAtRest}
use Rattle.a68_lease.proofs.runs.run_crews.Given as goal

abbrev pub invariant-loop-crews : goal.invariant-loop-crews
invariant-loop-crews g l = record {
  goes : GoesFrom l.fn.world l.now;
  rest : IsAtRest l.now;
}

abbrev pub ghosts-run_carried : goal.ghosts-run_carried
ghosts-run_carried g a = record { code = a.world.code ∷ []; fuel = a.world.fuel; first = a.world.entries }
