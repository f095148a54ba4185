use Rattle.std.proofs.Common.{◌∷◌, [], List, Bor, length, inl, inr}
use Rattle.std.proofs.lemmas.List.Elements.{All-cons, All-nil}
use Rattle.std.specs.List.{All}
use Rattle.a68_coerce.specs.Below.{IsLeafBelow}
use Rattle.a68_coerce.specs.declared.leaf.Leaf.{Leaf}
use Rattle.a68_yields.specs.Found.{for_operands, for_unknown_operands}
use Rattle.a68_yields.proofs.found.dyadic_found.Goals as goal

pub returns-in_default-clause-found : goal.returns-in_default-clause-found
returns-in_default-clause-found c = for_unknown_operands (inl (rw c.in_default.is at c.in_ok-one.ensures.leaves))

pub returns-in_default-2-clause-found : goal.returns-in_default-2-clause-found
returns-in_default-2-clause-found c = for_unknown_operands (inr (rw c.in_default-2.is at c.in_ok-other.ensures.leaves))

pub operator_found-requires-clause-leaves : goal.operator_found-requires-clause-leaves
operator_found-requires-clause-leaves c =
    let P : Bor (List Leaf) → Type 0 = λ o. All (IsLeafBelow (length c.args.modes.now)) o.now in
    let one : P c.deref.result = rw c.deref.ensures.value ((rw c.in-Some.is at c.in_ok-one.ensures.below) (length c.args.modes.now) c.requires.units) in
    let other : P c.deref-2.result = rw c.deref-2.ensures.value ((rw c.in-Some-2.is at c.in_ok-other.ensures.below) (length c.args.modes.now) c.requires.units) in
    All-cons P c.deref.result (c.deref-2.result ∷ []) one (All-cons P c.deref-2.result [] other (All-nil P))

pub returns-clause-found : goal.returns-clause-found
returns-clause-found c = for_operands c.deref.result.now c.deref-2.result.now (rw c.deref.ensures.value (rw c.in-Some.is at c.in_ok-one.ensures.leaves))
    (rw c.deref-2.ensures.value (rw c.in-Some-2.is at c.in_ok-other.ensures.leaves)) c.in_ok-found.ensures.found
