use Rattle.a68_read.proofs.Taking.{token_does, token_fails}
use Rattle.a68_read.proofs.take.token.Goals as goal

pub returns-in-Some-clause-takes : goal.returns-in-Some-clause-takes
returns-in-Some-clause-takes c = λ s. token_does _ _ _ s c.in-Some.ensures.rest

pub returns-in-None-clause-takes : goal.returns-in-None-clause-takes
returns-in-None-clause-takes c = λ s. token_fails _ _ s c.in-None.ensures.rest
