use Rattle.std.specs.Prelude.{[], ◌∷◌}
use Rattle.a68_workers.proofs.runs.run_all.Given as goal

-- the run that the workers are handed
abbrev pub ghosts-run_shared : goal.ghosts-run_shared
ghosts-run_shared g a = record { code = a.world.code ∷ []; fuel = a.world.fuel; first = a.world.entries }
