use Rattle.a68_parts.proofs.Reaching.{near_is}
use Rattle.a68_parts.proofs.rowing.near.Goals as goal

pub returns : goal.returns
returns c = near_is c.args.modes.now c.args.dims c.args.of c.row_of.result c.row_of.ensures
