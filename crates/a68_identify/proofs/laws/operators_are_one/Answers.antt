use Rattle.a68_identify.proofs.Answering.{operator_one}
use Rattle.a68_identify.proofs.laws.operators_are_one.Goals as goal

pub returns : goal.returns
returns c = operator_one
