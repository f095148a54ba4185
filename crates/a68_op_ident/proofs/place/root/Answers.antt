use Rattle.a68_op_ident.proofs.Roots.{first_root}
use Rattle.a68_op_ident.proofs.place.root.Goals as goal

pub loop-k-init : goal.loop-k-init
loop-k-init c = first_root c.args.tokens.now
