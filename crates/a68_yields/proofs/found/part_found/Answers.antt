use Rattle.std.proofs.Common.{length}
use Rattle.a68_yields.specs.Found.{for_part, for_unknown_part}
use Rattle.a68_yields.proofs.found.part_found.Goals as goal

pub wanted-requires-clause-leaves : goal.wanted-requires-clause-leaves
wanted-requires-clause-leaves c = rw c.deref.ensures.value ((rw c.in-Some.is at c.in_ok-leaves.ensures.below) (length c.args.modes.now) c.requires.units)

pub returns-in_ok-found-in-Some-clause-found : goal.returns-in_ok-found-in-Some-clause-found
returns-in_ok-found-in-Some-clause-found c = for_part c.deref.result.now (rw c.deref.ensures.value (rw c.in-Some.is at c.in_ok-leaves.ensures.leaves)) c.in_ok-found-in-Some.ensures.found

pub returns-in-None-clause-found : goal.returns-in-None-clause-found
returns-in-None-clause-found c = for_unknown_part (rw c.in-None.is at c.in_ok-leaves.ensures.leaves)
