use Rattle.std.proofs.Common.{ap, ◌∙◌}
use Rattle.a68_world.specs.Seats.{turn_at}
use Rattle.a68_world.proofs.Standing.{ready_by}
use Rattle.a68_world.proofs.world.World.can_turn.Goals as goal

pub returns : goal.returns
returns c =
    rw (← c.self.view_is) (ready_by c.self.inside c.self.invariant c.args.n c.turn_at.result (c.turn_at.ensures ∙ ap (λ l. turn_at l c.self.inside.store c.args.n) c.deref.ensures.value))
