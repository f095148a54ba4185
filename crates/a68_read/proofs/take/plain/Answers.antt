use Rattle.a68_read.proofs.Taking.{plain_does, plain_fails}
use Rattle.a68_read.proofs.take.plain.Goals as goal

pub returns-in-Some-clause-takes : goal.returns-in-Some-clause-takes
returns-in-Some-clause-takes c = λ s. plain_does _ _ s c.in-Some.ensures.rest

pub returns-in-None-clause-takes : goal.returns-in-None-clause-takes
returns-in-None-clause-takes c = λ s. plain_fails _ s c.in-None.ensures.rest
