use Rattle.a68_identify.proofs.Serving.{modes_are_there, stay_there}
use Rattle.a68_identify.proofs.laws.declared_modes_are_there.Goals as goal

pub returns-clause-found : goal.returns-clause-found
returns-clause-found c = modes_are_there

pub returns-clause-stay : goal.returns-clause-stay
returns-clause-stay c = stay_there
