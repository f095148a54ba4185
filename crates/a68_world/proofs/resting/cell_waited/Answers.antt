use Rattle.a68_world.proofs.RestingOn.{at_cell}
use Rattle.a68_world.proofs.resting.cell_waited.Goals as goal

pub returns : goal.returns
returns c = at_cell c.args.ask.now c.args.store.now c.in-Want.want c.in-Down.cell c.waits.result c.in-Want.is c.in-Down.is c.waits.ensures c.if-not-waits.false
