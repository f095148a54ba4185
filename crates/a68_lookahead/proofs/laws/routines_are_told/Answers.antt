use Rattle.a68_lookahead.proofs.Told.{unit_decided}
use Rattle.a68_lookahead.proofs.laws.routines_are_told.Goals as goal

pub returns : goal.returns
returns c = λ k u r i. unit_decided i r
