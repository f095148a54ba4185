use Rattle.std.proofs.Common.{length, inl, inr}
use Rattle.a68_yields.specs.Found.{for_sides, for_unknown_sides}
use Rattle.a68_yields.proofs.found.sides_found.Goals as goal

pub returns-in_default-clause-found : goal.returns-in_default-clause-found
returns-in_default-clause-found c = for_unknown_sides (inl (rw c.in_default.is at c.in_ok-one.ensures.leaves))

pub returns-in_default-2-clause-found : goal.returns-in_default-2-clause-found
returns-in_default-2-clause-found c = for_unknown_sides (inr (rw c.in_default-2.is at c.in_ok-other.ensures.leaves))

pub name_found-requires-clause-left : goal.name_found-requires-clause-left
name_found-requires-clause-left c = rw c.deref.ensures.value ((rw c.in-Some.is at c.in_ok-one.ensures.below) (length c.args.modes.now) c.requires.units)

pub name_found-requires-clause-right : goal.name_found-requires-clause-right
name_found-requires-clause-right c = rw c.deref-2.ensures.value ((rw c.in-Some-2.is at c.in_ok-other.ensures.below) (length c.args.modes.now) c.requires.units)

pub returns-clause-found : goal.returns-clause-found
returns-clause-found c = for_sides c.deref.result.now c.deref-2.result.now (rw c.deref.ensures.value (rw c.in-Some.is at c.in_ok-one.ensures.leaves))
    (rw c.deref-2.ensures.value (rw c.in-Some-2.is at c.in_ok-other.ensures.leaves)) c.in_ok-found.ensures.found
