use Rattle.a68_emit.proofs.Writing.{nothing-written}
use Rattle.a68_emit.proofs.single.meaningless.Goals as goal

pub returns : goal.returns
returns c = nothing-written c.args._out.now.stop c.args._out.now.list
