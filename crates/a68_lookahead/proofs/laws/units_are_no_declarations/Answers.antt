use Rattle.a68_lookahead.proofs.Told.{unit_undeclared}
use Rattle.a68_lookahead.proofs.laws.units_are_no_declarations.Goals as goal

pub returns : goal.returns
returns c = λ k u r i h. unit_undeclared i r h
