use Rattle.a68_ops.proofs.Rests.{modulo_is_rest}
use Rattle.a68_ops.proofs.laws.mod_gives_a_rest.Goals as goal

pub returns : goal.returns
returns c = modulo_is_rest
