use Rattle.a68_yields.proofs.found.form_found.Goals as goal

pub returns-in-Some-clause-found : goal.returns-in-Some-clause-found
returns-in-Some-clause-found c = (c.in-Some.balanced, rw c.modes.ensures.is at (rw c.in-Some.is at c.in_ok-found.ensures.formed), c.node_of.ensures)

pub returns-in-None-clause-found : goal.returns-in-None-clause-found
returns-in-None-clause-found c = rw c.modes.ensures.is at (rw c.in-None.is at c.in_ok-found.ensures.formed)
