use Rattle.a68_read.proofs.Taking.{denotation_does, denotation_fails}
use Rattle.a68_read.proofs.take.denotation.Goals as goal

pub returns-in-Some-clause-takes : goal.returns-in-Some-clause-takes
returns-in-Some-clause-takes c = λ s. denotation_does _ _ s c.in-Some.ensures.rest

pub returns-in-None-clause-takes : goal.returns-in-None-clause-takes
returns-in-None-clause-takes c = λ s. denotation_fails _ s c.in-None.ensures.rest
