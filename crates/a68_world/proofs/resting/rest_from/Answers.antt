use Rattle.a68_world.proofs.RestingOn.{more_then}
use Rattle.a68_world.proofs.resting.rest_from.Goals as goal

pub returns-then-not-rest_in : goal.returns-then-not-rest_in
returns-then-not-rest_in c =
    more_then c.args.rests.now c.rest_at.new.rests c.rest_in-found.new.rests c.args.seats.now c.args.store.now c.rest_at.ensures
    (more_then c.rest_at.new.rests c.rest_in.new.rests c.rest_in-found.new.rests c.args.seats.now c.args.store.now c.rest_in.ensures c.rest_in-found.ensures)

pub returns-else-not-rest_in : goal.returns-else-not-rest_in
returns-else-not-rest_in c = more_then c.args.rests.now c.rest_at.new.rests c.rest_in.new.rests c.args.seats.now c.args.store.now c.rest_at.ensures c.rest_in.ensures
