use Rattle.a68_world.proofs.RestingOn.{more_then}
use Rattle.a68_world.proofs.resting.rest_behind.Goals as goal

pub returns : goal.returns
returns c = record {
  left = c.leave_by.new.rests;
  leaves = c.leave_by.ensures;
  opened = c.open_by.new.rests;
  opens = c.open_by.ensures;
  closed = c.close_by.new.rests;
  closes = c.close_by.ensures;
  roused = c.rouse_behind.new.rests;
  rouses = c.rouse_behind.ensures;
  more =
      more_then c.rouse_behind.new.rests c.rest_forker.new.rests c.rest_from.new.rests c.args.seats.now c.args.store.now c.rest_forker.ensures c.rest_from.ensures;
}
