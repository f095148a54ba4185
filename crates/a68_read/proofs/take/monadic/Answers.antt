use Rattle.a68_read.proofs.Taking.{monadic_does}
use Rattle.a68_read.proofs.take.monadic.Goals as goal

pub returns-clause-takes : goal.returns-clause-takes
returns-clause-takes c = monadic_does _ _ _ _ c.in_ok-sign.ensures.built c.in-Some.ensures.rest
