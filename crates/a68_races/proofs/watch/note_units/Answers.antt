use Rattle.a68_races.proofs.Stepping.{notes_none, numbers_no_fork}
use Rattle.a68_races.proofs.watch.note_units.Goals as goal

pub returns-in_default : goal.returns-in_default
returns-in_default c = notes_none c.args.entry c.args.parents.now (numbers_no_fork c.args.entry.act c.in_default.not-Fork)
