use Rattle.std.proofs.Common.{None, inl, inr}
use Rattle.a68_coerce.specs.Balanced.{IsSided}
use Rattle.a68_yields.proofs.Within.{none_from}
use Rattle.a68_yields.proofs.found.name_found.Goals as goal

pub returns-in-Some-clause-found : goal.returns-in-Some-clause-found
returns-in-Some-clause-found c = (c.in-Some.balanced, c.node_of.ensures, inl (rw c.modes.ensures.is at (rw c.in-Some.is at c.in_ok-balanced.ensures.sided)))

pub returns-in-Some-2-clause-found : goal.returns-in-Some-2-clause-found
returns-in-Some-2-clause-found c =
    let none : IsSided c.args.modes.now c.args.left.now c.args.right.now None = rw c.modes.ensures.is at (rw (none_from _ c.in_default.not-Some) at c.in_ok-balanced.ensures.sided) in
    (c.in-Some-2.balanced, c.node_of-in-Some-2.ensures, inr (none, rw c.modes-2.ensures.is at (rw c.in-Some-2.is at c.in_ok-balanced-2.ensures.sided)))

pub returns-in-None-clause-found : goal.returns-in-None-clause-found
returns-in-None-clause-found c =
    let none : IsSided c.args.modes.now c.args.left.now c.args.right.now None = rw c.modes.ensures.is at (rw (none_from _ c.in_default.not-Some) at c.in_ok-balanced.ensures.sided) in
    (none, rw c.modes-2.ensures.is at (rw c.in-None.is at c.in_ok-balanced-2.ensures.sided))
