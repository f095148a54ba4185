use Rattle.a68_read.proofs.Taking.{dyadic_does}
use Rattle.a68_read.proofs.take.dyadic.Goals as goal

pub returns-clause-takes : goal.returns-clause-takes
returns-clause-takes c = dyadic_does _ _ _ _ c.in_ok-sign.ensures.built c.in-Some.ensures.rest
