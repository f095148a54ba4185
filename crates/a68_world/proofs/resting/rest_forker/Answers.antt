use Rattle.a68_world.proofs.RestingOn.{more_none}
use Rattle.a68_world.proofs.resting.rest_forker.Goals as goal

pub returns-then-closed_at : goal.returns-then-closed_at
returns-then-closed_at c = c.rest_at.ensures

pub returns-else-closed_at : goal.returns-else-closed_at
returns-else-closed_at c = more_none c.args.rests.now c.args.seats.now c.args.store.now
