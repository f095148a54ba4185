use Rattle.std.proofs.Common.{sym, subst, IsTrue}
use Rattle.a68_workers.specs.Runs.{none_lent}
use Rattle.a68_workers.proofs.NoneLent.{none_is_lent}
use Rattle.a68_world.specs.Run.{Run}
use Rattle.a68_workers.proofs.resting.RestingWorld.new.Goals as goal

pub invariant_of-result : goal.invariant_of-result
invariant_of-result g c = record { rests = subst (λ (r : Run). IsTrue (none_lent r.status)) (sym c.new-held.ensures) (none_is_lent c.args.world c.requires.rest) }
