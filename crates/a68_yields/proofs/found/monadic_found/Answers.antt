use Rattle.std.proofs.Common.{[], List, Bor, length}
use Rattle.std.proofs.lemmas.List.Elements.{All-cons, All-nil}
use Rattle.std.specs.List.{All}
use Rattle.a68_coerce.specs.Below.{IsLeafBelow}
use Rattle.a68_coerce.specs.declared.leaf.Leaf.{Leaf}
use Rattle.a68_yields.specs.Found.{for_operand, for_unknown_operand}
use Rattle.a68_yields.proofs.found.monadic_found.Goals as goal

pub returns-in_default-clause-found : goal.returns-in_default-clause-found
returns-in_default-clause-found c = for_unknown_operand (rw c.in_default.is at c.in_ok-leaves.ensures.leaves)

pub operator_found-requires-clause-leaves : goal.operator_found-requires-clause-leaves
operator_found-requires-clause-leaves c =
    let P : Bor (List Leaf) → Type 0 = λ o. All (IsLeafBelow (length c.args.modes.now)) o.now in
    let one : P c.deref.result = rw c.deref.ensures.value ((rw c.in-Some.is at c.in_ok-leaves.ensures.below) (length c.args.modes.now) c.requires.units) in
    All-cons P c.deref.result [] one (All-nil P)

pub returns-clause-found : goal.returns-clause-found
returns-clause-found c = for_operand c.deref.result.now (rw c.deref.ensures.value (rw c.in-Some.is at c.in_ok-leaves.ensures.leaves)) c.in_ok-found.ensures.found
