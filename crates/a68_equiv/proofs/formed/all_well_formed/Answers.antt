use Rattle.std.proofs.Common.{◌≡◌, ◌<◌, ℕ, List, Option, Some, None, length, get_or, refl, arith, subst}
use Rattle.std.proofs.lemmas.List.Elements.{All-from_get_or}
use Rattle.a68_modes.specs.declared.shape.Shape.{Shape}
use Rattle.a68_equiv.specs.Ways.{IsWellFormed, AreWellFormed, IsFirstIllFormed}
use Rattle.a68_equiv.proofs.formed.all_well_formed.Goals as goal

all_formed : (nodes : List Shape) (given roots : List ℕ) (place : Option ℕ) → IsFirstIllFormed nodes given place → place ≡ None → given ≡ roots → length roots ≡ length nodes → ((k : ℕ) → k < length nodes → get_or roots k 0 ≡ k) → AreWellFormed nodes
all_formed nodes given roots (Some place) first e same long each = absurd (cc)
all_formed nodes given roots None first e same long each = λ m h.
    let there : m < length roots = omega arith in
    let all = subst (λ (xs : List ℕ). IsFirstIllFormed nodes xs None) same first in
    subst (IsWellFormed nodes) (each m h) (all m there)

pub ill_formed-requires-clause-roots : goal.ill_formed-requires-clause-roots
ill_formed-requires-clause-roots c =
    let ids = c.in_ok-roots.roots.items in
    rw c.deref.ensures.value (All-from_get_or (λ m. m < length c.args.modes.now) ids 0 (λ k h.
    let long = c.in_ok-roots.ensures.long in
    let there : k < length c.args.modes.now = omega arith in
    rw (c.in_ok-roots.ensures.each k there) there))

pub returns-in-None : goal.returns-in-None
returns-in-None c = (
  λ t. all_formed c.args.modes.now c.deref.result.now c.in_ok-roots.roots.items c.in_ok-ill_formed.field-0 c.in_ok-ill_formed.ensures c.in-None.is c.deref.ensures.value c.in_ok-roots.ensures.long c.in_ok-roots.ensures.each,
  λ formed. refl,
)
