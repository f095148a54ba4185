use Rattle.a68_read.proofs.Taking.{closing_does}
use Rattle.a68_read.proofs.take.closing.Goals as goal

pub returns-clause-takes : goal.returns-clause-takes
returns-clause-takes c = closing_does _ _ _ _ _ c.in-Some.ensures.rest c.unbracket.ensures.built
