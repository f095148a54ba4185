use Rattle.a68_races.proofs.Stepping.{tells_none, tells_own}
use Rattle.a68_races.proofs.watch.tell.Goals as goal

pub returns-in_default : goal.returns-in_default
returns-in_default c = tells_own c.args.entry c.args.parents.now c.args.strands.now (tells_none c.args.entry.act c.in_default.not-Fork c.in_default.not-Close)
