-- The places that a Member names.
use Rattle.std.proofs.Common.{◌≡◌, ℕ, suc, Bool, true, false, IsTrue, List, [], ◌∷◌, length, refl, ap, ◌∙◌}
use Rattle.std.proofs.lemmas.Bool.{eq-eqb}
use Rattle.std.proofs.lemmas.List.Elements.{All-cons, All-from_recursion}
use Rattle.std.specs.List.{All}
use Rattle.std.specs.Prelude.{◌&&◌, if◌then◌else◌}
use Rattle.a68_acts.specs.Members as acts
use Rattle.a68_code.specs.Flow.{last_place}
use Rattle.a68_code.specs.Operands.{members_of, serves_each}
use Rattle.a68_elab.specs.Trees.{Specs}
use Rattle.a68_emit.specs.Stretches.{member_places, place_for, wholes_of}
use Rattle.a68_modes.specs.declared.shape.Shape.{Shape}
use Rattle.a68_modes.specs.declared.shape.Shape.TheVariants as shape

-- the last place is that for none
pub last_is : (members : List ℕ) (specs : Specs) (ps : List ℕ) (none : ℕ) → last_place (member_places members specs ps none) ≡ none
last_is [] specs ps none = refl
last_is (m ∷ []) specs ps none = refl
last_is (m ∷ (n ∷ ms)) specs ps none = last_is (n ∷ ms) specs ps none

pub both_true : {x y : Bool} → x ≡ true → y ≡ true → IsTrue (x && y)
both_true {x = x} {y = y} e f = rw (e, f) refl

-- there is a place for each member, and one more
one_more : (members : List ℕ) (specs : Specs) (ps : List ℕ) (none : ℕ) → length (member_places members specs ps none) ≡ suc (length members)
one_more [] specs ps none = refl
one_more (m ∷ ms) specs ps none = ap (λ (n : ℕ). suc n) (one_more ms specs ps none)

-- it is said of each what is left there
told_of_each : (members : List ℕ) (specs : Specs) → length (wholes_of members specs) ≡ length members
told_of_each [] specs = refl
told_of_each (m ∷ ms) specs = ap (λ (n : ℕ). suc n) (told_of_each ms specs)

-- the members that a Member wants a place for are those of which the machine takes one
same_members : (union : Shape) → acts.members_of union ≡ members_of union
same_members (shape.Union members) = refl
same_members _ = refl

pub each_served : (union : Shape) (members : List ℕ) (specs : Specs) (ps : List ℕ) (none : ℕ) → members ≡ acts.members_of union
    → serves_each union (member_places members specs ps none) (wholes_of members specs) ≡ true
each_served union members specs ps none e =
    let count : length members ≡ length (members_of union) = ap (λ (l : List ℕ). length l) (e ∙ same_members union) in
    both_true (eq-eqb _ _ (one_more members specs ps none ∙ ap (λ (n : ℕ). suc n) count)) (eq-eqb _ _ (told_of_each members specs ∙ count))

-- what holds where a specification is taken, or behind it
pub taken_or : (P : ℕ → Type 0) (taken : Bool) (q other : ℕ) → P q → P other → P (if taken then q else other)
taken_or P true q other here later = here
taken_or P false q other here later = later

-- what holds of the place of each member, and of that for none, holds of all
pub members_all : (P : ℕ → Type 0) (members : List ℕ) (specs : Specs) (ps : List ℕ) (none : ℕ) → ((m : ℕ) → P (place_for m specs ps none)) → P none → All P (member_places members specs ps none)
members_all P [] specs ps none each last = All-cons P none [] last (All-from_recursion P [] tt)
members_all P (m ∷ ms) specs ps none each last = All-cons P (place_for m specs ps none) (member_places ms specs ps none) (each m) (members_all P ms specs ps none each last)
