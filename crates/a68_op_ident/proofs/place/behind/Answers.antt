use Rattle.a68_op_ident.proofs.Lists.{slice_from}
use Rattle.a68_op_ident.proofs.place.behind.Goals as goal
use Rattle.std.proofs.Common.{◌+◌}

pub returns-clause-are : goal.returns-clause-are
returns-clause-are c = slice_from (c.args.place + 1) c.args.tokens.now
