use Rattle.std.proofs.Common.{sym, subst, IsTrue}
use Rattle.a68_workers.specs.Runs.{IsAtRest}
use Rattle.a68_workers.proofs.NoneLent.{at_rest}
use Rattle.a68_world.specs.Run.{Run}
use Rattle.a68_workers.proofs.resting.RestingWorld.into_world.Goals as goal

pub returns-clause-rest : goal.returns-clause-rest
returns-clause-rest g c = subst (λ (r : Run). IsAtRest r) (sym c.into_world.ensures.same) (at_rest c.args.self.held.world c.args.self.rests)
