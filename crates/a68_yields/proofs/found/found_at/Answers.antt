use Rattle.a68_yields.specs.Found.{for_nothing}
use Rattle.a68_yields.proofs.found.found_at.Goals as goal

pub returns-in-Nothing-clause-found : goal.returns-in-Nothing-clause-found
returns-in-Nothing-clause-found c = rw c.in-Nothing.is for_nothing

pub returns-in-Part-clause-found : goal.returns-in-Part-clause-found
returns-in-Part-clause-found c = rw (c.in-Part.is, ← c.declared-declared.ensures) c.part_found.ensures.found

pub returns-in-Sides-clause-found : goal.returns-in-Sides-clause-found
returns-in-Sides-clause-found c = rw (c.in-Sides.is, ← c.declared-declared.ensures) c.sides_found.ensures.found
