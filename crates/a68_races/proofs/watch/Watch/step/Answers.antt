use Rattle.a68_races.proofs.Stepping.{taken_in}
use Rattle.a68_races.proofs.watch.Watch.step.Goals as goal

pub returns : goal.returns
returns c = taken_in c.args.entry c.args.place c.race-race.result c.args.self.now _ c.lower.new.strands c.set.new.self
    c.in_ok-lower.ensures c.race-race.ensures c.in_ok-set.ensures c.in_ok-note_raised.ensures c.in_ok-tell.ensures c.in_ok-note_units.ensures c.in_ok-note_cell.ensures
