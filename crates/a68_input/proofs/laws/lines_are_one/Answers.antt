use Rattle.a68_input.proofs.Cutting.{one_way}
use Rattle.a68_input.proofs.laws.lines_are_one.Goals as goal

pub returns : goal.returns
returns c = one_way
