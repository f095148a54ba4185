use Rattle.a68_lookahead.proofs.Firsts.{first_unit}
use Rattle.a68_lookahead.proofs.laws.units_begin.Goals as goal

pub returns : goal.returns
returns c = λ k u r i. first_unit i r
