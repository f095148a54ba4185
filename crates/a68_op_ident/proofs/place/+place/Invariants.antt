use Rattle.std.proofs.Common.{length}
use Rattle.a68_op_ident.proofs.place.+place.Given as goal

abbrev pub decreases-place : goal.decreases-place
decreases-place l = length l.tokens.now
