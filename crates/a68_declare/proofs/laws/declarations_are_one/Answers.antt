use Rattle.a68_declare.proofs.One.{one_broken, not_broken}
use Rattle.a68_declare.proofs.Single.{modes_one}
use Rattle.a68_declare.proofs.laws.declarations_are_one.Goals as goal

pub returns : goal.returns
returns c = record { refusal = one_broken; apart = not_broken; modes = modes_one }
