use Rattle.std.proofs.Common.{refl}
use Rattle.a68_yields.proofs.found.mode_found.Goals as goal

pub returns-in-Some-clause-found : goal.returns-in-Some-clause-found
returns-in-Some-clause-found c = (refl, _, rw c.modes.ensures.is at (rw c.in-Some.is at c.in_ok-found.ensures))

pub returns-in-None-clause-found : goal.returns-in-None-clause-found
returns-in-None-clause-found c = rw c.modes.ensures.is at (rw c.in-None.is at c.in_ok-found.ensures)
