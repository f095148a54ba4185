use Rattle.a68_read.proofs.Taking.{operator_does, operator_fails}
use Rattle.a68_read.proofs.take.operator.Goals as goal

pub returns-in-Some-clause-takes : goal.returns-in-Some-clause-takes
returns-in-Some-clause-takes c = λ s. operator_does _ _ s c.in-Some.ensures.rest

pub returns-in-None-clause-takes : goal.returns-in-None-clause-takes
returns-in-None-clause-takes c = λ s. operator_fails _ s c.in-None.ensures.rest
