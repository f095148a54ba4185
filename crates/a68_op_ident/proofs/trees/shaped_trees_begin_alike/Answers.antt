use Rattle.a68_op_ident.proofs.Beginning.{begun}
use Rattle.a68_op_ident.proofs.trees.shaped_trees_begin_alike.Goals as goal

pub returns : goal.returns
returns c = begun
