-- The modes within shapes that are there.
use Rattle.std.proofs.Common.{◌≡◌, ◌<◌, ◌≤◌, ◌++◌, ◌∷◌, [], ℕ, List, Option, None, Some, length, map, get_or, refl, subst, arith, length-append}
use Rattle.std.proofs.Math.Seq.{get_or-append_seam}
use Rattle.std.proofs.lemmas.List.{get_or-map, length-map}
use Rattle.std.specs.List.{All}
use Rattle.std.specs.Prelude.{IfSome, MatchOption, slice_index_or}
use Rattle.a68_coerce.specs.declared.leaf.Leaf.{Leaf}
use Rattle.a68_declare.specs.Outcome.{ByNode}
use Rattle.a68_identify.proofs.Standing.{operator_low}
use Rattle.a68_identify.specs.Identified.{IsOperator}
use Rattle.a68_identify.specs.declared.identified.Identified.{Identified}
use Rattle.a68_identify.specs.declared.identified.Identified.TheVariants.{Declared, Standard}
use Rattle.a68_tree.specs.Trees.{Built}
use Rattle.a68_ranges.specs.Nodes.{name_at}
use Rattle.a68_yields.specs.Below.{IsOperatorBelow}
use Rattle.a68_yields.specs.Found.{IsOperatorFound}
use Rattle.a68_modes.specs.Nodes.{HoldsNodes, ShapeIsWithin, shape_at}
use Rattle.a68_modes.specs.declared.shape.Shape.{Shape}

pub shape_within : (nodes : List Shape) → HoldsNodes nodes → (m : ℕ) (s : Shape) → m < length nodes → shape_at nodes m ≡ s → ShapeIsWithin (length nodes) s
shape_within nodes holds m s h is = subst (ShapeIsWithin (length nodes)) is (holds.within m h)

pub last_within : (n m : ℕ) (params : List ℕ) → All (λ x. x < n) (params ++ m ∷ []) → m < n
last_within n m params all =
    let there : length params < length (params ++ m ∷ []) = omega (arith, length-append params (m ∷ [])) in
    let at : get_or (params ++ m ∷ []) (length params) 0 < n = all (length params) 0 there in
    rw (get_or-append_seam params m [] 0) at at

pub field_within : (n k : ℕ) (fields : List (ℕ × ℕ)) → All (λ x. x < n) (map (λ (field : ℕ × ℕ). field.1) fields) → k < length fields → (slice_index_or fields k (0, 0)).1 < n
field_within n k fields all h =
    let there : k < length (map (λ (field : ℕ × ℕ). field.1) fields) = omega (arith, length-map fields (λ (field : ℕ × ℕ). field.1)) in
    let at : get_or (map (λ (field : ℕ × ℕ). field.1) fields) k 0 < n = all k 0 there in
    rw (get_or-map (λ (field : ℕ × ℕ). field.1) fields k (0, 0) 0 h) at at

-- what is no value is none
pub none_from : {X : Type 0} (o : Option X) → ((x : X) → o ≡ Some x → ⊥) → o ≡ None
none_from None h = refl
none_from (Some x) h = absurd (h x refl)

-- an operator that is found has modes that are there
pub operator_there : (tree : Built) (nodes : List Shape) (of : ByNode) (at sign : ℕ) (operands : List (List Leaf)) (found : Option Identified) → 15 ≤ length nodes
    → MatchOption found ((any : Identified) → IsOperator tree nodes of at sign operands any → ⊥) (IsOperator tree nodes of at sign operands) → IfSome found (IsOperatorBelow (length nodes))
operator_there tree nodes of at sign operands None many is = tt
operator_there tree nodes of at sign operands (Some (Declared d)) many is = tt
operator_there tree nodes of at sign operands (Some (Standard o)) many is =
    let low : (o.left < 15) × (o.right < 15) × (o.result < 15) = operator_low tree nodes of at sign operands o is in
    let a : o.left < 15 = low.0 in let b : o.right < 15 = low.1 in let c : o.result < 15 = low.2 in (omega arith, omega arith, omega arith)

pub operator_is : (tree : Built) (nodes : List Shape) (of : ByNode) (n : ℕ) (operands : List (List Leaf)) (found : Option Identified)
    → MatchOption found ((any : Identified) → IsOperator tree nodes of n (name_at tree n) operands any → ⊥) (IsOperator tree nodes of n (name_at tree n) operands)
    → IsOperatorFound tree nodes of n operands found
operator_is tree nodes of n operands None is = is
operator_is tree nodes of n operands (Some found) is = is
