use Rattle.std.proofs.Common.{sym, subst, IsTrue}
use Rattle.a68_workers.proofs.NoneLent.{at_rest, none_is_lent}
use Rattle.a68_workers.proofs.resting.RestingWorld.turn_next.Goals as goal

pub invariant_of-self : goal.invariant_of-self
invariant_of-self g c = record { rests = none_is_lent c.turn.new.self.world (c.turn.ensures (at_rest c.args.self.now.held.world c.args.self.now.rests)) }
