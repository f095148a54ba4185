use Rattle.a68_declare.proofs.One.{broken_by}
use Rattle.a68_declare.proofs.laws.declarations_begin_by.Goals as goal

pub returns : goal.returns
returns c = λ tree end r nodes starts broken. broken_by tree end nodes starts r broken
