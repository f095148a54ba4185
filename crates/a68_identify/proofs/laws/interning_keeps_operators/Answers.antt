use Rattle.a68_identify.proofs.Keeping.{interning_operators}
use Rattle.a68_identify.proofs.laws.interning_keeps_operators.Goals as goal

pub returns : goal.returns
returns c = interning_operators
