use Rattle.a68_read.proofs.Taking.{opening_does}
use Rattle.a68_read.proofs.take.opening.Goals as goal

pub returns-clause-takes : goal.returns-clause-takes
returns-clause-takes c = opening_does _ _ _ _ _ c.in-Some.ensures.rest c.in_ok-bracket.ensures.built
