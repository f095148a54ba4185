use Rattle.std.proofs.Common.{ℕ, List, subst}
use Rattle.a68_equiv.specs.Spread.{AreLast}
use Rattle.a68_equiv.proofs.Spreading.{plain_spread, spread_whole, spread_below}
use Rattle.a68_equiv.proofs.spread.spread.Goals as goal

pub returns-then-are_plain-clause-members : goal.returns-then-are_plain-clause-members
returns-then-are_plain-clause-members c = rw c.in_ok-plain.ensures (plain_spread c.args.modes.now c.args.start.now c.requires (c.are_plain.ensures c.if-are_plain.true))

pub returns-clause-members : goal.returns-clause-members
returns-clause-members c =
    let nodes = c.args.modes.now in
    let last = subst (λ (xs : List ℕ). AreLast nodes xs c.in_ok-members.members) c.deref.ensures.value c.in_ok-members.ensures in
    spread_whole nodes c.args.start.now c.in_ok-found.found.items c.in_ok-members.members c.in_ok-found.ensures.led last

pub returns-clause-below : goal.returns-clause-below
returns-clause-below c =
    let nodes = c.args.modes.now in
    let last = subst (λ (xs : List ℕ). AreLast nodes xs c.in_ok-members.members) c.deref.ensures.value c.in_ok-members.ensures in
    spread_below nodes c.in_ok-found.found.items c.in_ok-members.members last c.in_ok-found.ensures.below

pub returns-then-are_plain-clause-below : goal.returns-then-are_plain-clause-below
returns-then-are_plain-clause-below c = rw c.in_ok-plain.ensures c.requires

pub last_of-requires : goal.last_of-requires
last_of-requires c = rw c.deref.ensures.value c.in_ok-found.ensures.below
