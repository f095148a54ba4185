-- The rows of nodes that are there.
use Rattle.std.proofs.Common.{◌≡◌, ◌<◌, ℕ, List, Bool, true, false, length, refl, sym, subst}
use Rattle.std.specs.Prelude.{◌↔◌}
use Rattle.std.specs.List.{Contains}
use Rattle.a68_modes.specs.declared.shape.Shape.{Shape}
use Rattle.a68_modes.specs.declared.shape.Shape.TheVariants.{Union}
use Rattle.a68_modes.specs.Nodes.{shape_at, parts_of, HoldsNodes}
use Rattle.a68_equiv.specs.declared.mode.Mode.{Mode}
use Rattle.a68_equiv.specs.declared.steps.Inward.TheVariants.{WithinUnions}
use Rattle.a68_equiv.specs.Ways.{steps_of}
use Rattle.a68_equiv.specs.Spread.{IsSpread}
use Rattle.a68_equiv.specs.Unfolding.{unfolded, behind, passes_on, is_union, IsMember}
use Rattle.a68_equiv.specs.Graph.{AreAt, ArePartsOf, IsShapeRow, IsRowOf}
use Rattle.a68_equiv.specs.Related.{IsSelfOrMember}
use Rattle.a68_equiv.proofs.Rowing.{at_parts, at_members, row_is}
use Rattle.a68_equiv.proofs.Spreading.{members_spread, members_behind}
use Rattle.a68_equiv.proofs.Grasp.{behind_below}

spread_members : (others : List Shape) (start : List ℕ) (s : Shape) (items : List ℕ) → is_union s ≡ true → ArePartsOf others start s items → (x : ℕ) → Contains items x ↔ IsSpread others start x
spread_members others start (Union ms) items e are = are
spread_members others start _ items e are = absurd (cc)

plain_parts : (others : List Shape) (start : List ℕ) (s : Shape) (items : List ℕ) → is_union s ≡ false → ArePartsOf others start s items → items ≡ parts_of s
plain_parts others start (Union ms) items e are = absurd (cc)
plain_parts others start _ items e are = are

-- what a union spreads to are its members
pub parts_at : (nodes others : List Shape) (start : List ℕ) (m : ℕ) (s : Shape) (items : List ℕ) → (is_union s ≡ true → (x : ℕ) → IsMember nodes m x ↔ IsSpread others start x) → ArePartsOf others start s items → AreAt nodes m s items
parts_at nodes others start m s items same are = go (is_union s) refl
  where
    go : (b : Bool) → is_union s ≡ b → AreAt nodes m s items
    go true e =
        let f = spread_members others start s items e are in
        at_members nodes m s items e (λ x. (λ i. (same e x).1 ((f x).0 i), λ is. (f x).1 ((same e x).0 is)))
    go false e = subst (λ (xs : List ℕ). AreAt nodes m s xs) (sym (plain_parts others start s items e are)) (at_parts nodes m s e)

same_members : {P Q R : Type 0} → P ↔ Q → Q ↔ R → P ↔ R
same_members p q = (λ i. q.0 (p.0 i), λ i. p.1 (q.1 i))

-- the row of a node
pub row_here : (nodes : List Shape) → HoldsNodes nodes → (a : Mode) (row : Bool × List ℕ) → a.id < length nodes → IsShapeRow nodes (steps_of WithinUnions (unfolded nodes a.id)) (unfolded nodes a.id) a.fixed row → IsRowOf nodes a row
row_here nodes holds a row h is =
    let head = behind nodes (length nodes) a.id in
    let members = λ (u : is_union (unfolded nodes a.id) ≡ true) (x : ℕ). same_members (members_behind nodes holds (length nodes) a.id x h u) (members_spread nodes head x (behind_below nodes holds (length nodes) a.id h)) in
    let at = parts_at nodes nodes (steps_of WithinUnions (unfolded nodes a.id)) a.id (unfolded nodes a.id) is.items members is.parts in
    subst (λ (xs : List ℕ). IsRowOf nodes a (row.0, xs)) (sym is.numbers) (row_is nodes a is.items row.0 (passes_on a.fixed (unfolded nodes a.id)) is.kind refl at is.below)

-- what a union spreads to is among it
pub among_members : (nodes : List Shape) (m : ℕ) (s : Shape) → m < length nodes → is_union s ≡ true → (x : ℕ) → IsSelfOrMember nodes m s x ↔ IsSpread nodes (steps_of WithinUnions (shape_at nodes m)) x
among_members nodes m (Union ms) h e x = members_spread nodes m x h
among_members nodes m _ h e x = absurd (cc)
