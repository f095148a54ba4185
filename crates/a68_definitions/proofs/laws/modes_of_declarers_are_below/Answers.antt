use Rattle.a68_definitions.proofs.Defining.{modes_below}
use Rattle.a68_definitions.proofs.laws.modes_of_declarers_are_below.Goals as goal

pub returns : goal.returns
returns c = modes_below
