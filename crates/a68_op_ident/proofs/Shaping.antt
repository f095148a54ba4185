-- What is placed keeps the tree sound.
use Rattle.std.proofs.Common.{◌≡◌, ℕ, ◌+◌, ◌<◌, ◌≤◌, inl, inr, false, List, ◌∷◌, ◌++◌, length, sym, ◌∙◌, ap, subst, arith, Some, slice_get}
use Rattle.a68_op_ident.specs.Formulas.{EachOf, ReadsParts, Placed, alone, under, over, monadic_node, dyadic_node, signs}
use Rattle.a68_op_ident.specs.Inner.{Same, StandsBetween}
use Rattle.a68_op_ident.specs.declared.formula.Operand.{Operand}
use Rattle.a68_op_ident.specs.declared.formula.FormulaPart.{FormulaPart}
use Rattle.a68_op_ident.specs.declared.formula.FormulaPart.TheVariants as token
use Rattle.a68_op_ident.proofs.Lists.{some_same, less_or_not, eq_or_more, all_left, all_right}
use Rattle.a68_op_ident.proofs.Placing.{in_order}
use Rattle.a68_op_ident.proofs.Parts.{IsNamed, sign_nodes, between, named, ends}
use Rattle.a68_tree.specs.Trees.{IsSound, AllBetween}
use Rattle.a68_tree.specs.declared.node.Node.{Node}

pub data Split (i id middle : ℕ) : Type 0 where
  here_at : i ≡ id → Split i id middle
  left_of : id + 1 ≤ i → i < middle → Split i id middle
  right_of : middle ≤ i → Split i id middle

pub split : (i id middle : ℕ) → id ≤ i → Split i id middle
split i id middle p = elim (eq_or_more id i p) [ inl e ↦ here_at (sym e) | inr q ↦ elim (less_or_not i middle) [ inl u ↦ left_of (omega arith) u | inr u ↦ right_of u ] ]

-- what holds of all tokens holds of those on the left and on the right of one
pub lefts : (P : FormulaPart → Type 0) {ts : List FormulaPart} (left right : List FormulaPart) (t : FormulaPart) → ts ≡ left ++ t ∷ right → EachOf P ts → EachOf P left
lefts P left right t e a = all_left P left (t ∷ right) (subst (EachOf P) e a)

pub rights : (P : FormulaPart → Type 0) {ts : List FormulaPart} (left right : List FormulaPart) (t : FormulaPart) → ts ≡ left ++ t ∷ right → EachOf P ts → P t × EachOf P right
rights P left right t e a = all_right P left (t ∷ right) (subst (EachOf P) e a)

-- what is placed stands behind its first place, and within the list
later : {ns : List Node} {ts : List FormulaPart} {id next : ℕ} {top : Operand} (last total : ℕ) → Placed ns ts id next top → EachOf (StandsBetween last total) ts → next ≤ last → last < total
    → (id ≤ top.id) × (top.id < total)
later last total (alone o) fit p q = let a = fit.0.0 in (omega arith, fit.0.1)
later last total (under s o c n a) fit p q = let x = in_order a in (omega arith, omega arith)
later last total (over left right s p middle a b e l r n x y) fit u v = let f = in_order x in let g = in_order y in (omega arith, omega arith)

-- each node that is placed stands before its parts, and has a name
sound_at : {ns : List Node} {ts : List FormulaPart} {id next : ℕ} {top : Operand} (last total names : ℕ) → Placed ns ts id next top → EachOf (StandsBetween last total) ts → EachOf (IsNamed names) ts
    → next ≤ last → last < total → (i : ℕ) (n : Node) → id ≤ i → i < next → slice_get ns i ≡ Some n → AllBetween i total n.parts × (n.name < names)
sound_at last total names (alone o) fit are low high i n p q at = absurd (omega arith)
sound_at {ns = ns} {id = id} last total names (under s o c here a) fit are low high i n from to at =
    elim (eq_or_more id i from) [
      | inl e ↦
          (let z : monadic_node s o ≡ n = some_same (sym here ∙ ap (λ k. slice_get ns k) e ∙ at) in
          let below = later last total a fit.1 low high in
          let le = below.0 in
          rw (← z, ← e) ((omega arith, below.1, tt), are.0))
      | inr u ↦ sound_at last total names a fit.1 are.1 low high i n (omega arith) to at
    ]
sound_at {ns = ns} {id = id} last total names (over left right s p middle a b parts l r here x y) fit are low high i n from to at =
    let f = in_order x in
    let g = in_order y in
    let left_fit = lefts (StandsBetween last total) left right (token.Dyad s (Some p)) parts fit in
    let right_fit = rights (StandsBetween last total) left right (token.Dyad s (Some p)) parts fit in
    let left_are = lefts (IsNamed names) left right (token.Dyad s (Some p)) parts are in
    let right_are = rights (IsNamed names) left right (token.Dyad s (Some p)) parts are in
    elim (split i id middle from) [
      | here_at e ↦
          (let z : dyadic_node s a b ≡ n = some_same (sym here ∙ ap (λ k. slice_get ns k) (sym e) ∙ at) in
          let below = later last total x left_fit (omega arith) high in
          let above = later last total y right_fit.1 low high in
          let le = below.0 in
          let ge = above.0 in
          rw (← z, e) ((omega arith, below.1, (omega arith, above.1, tt)), right_are.0))
      | left_of u v ↦ sound_at last total names x left_fit left_are (omega arith) high i n u v at
      | right_of u ↦ sound_at last total names y right_fit.1 right_are.1 low high i n u to at
    ]

-- the tree is sound once a formula's nodes are placed
pub sound_placed : (old new : List Node) (names f : ℕ) (n : Node) (ts : List FormulaPart) (top : Operand) → IsSound old names → slice_get old f ≡ Some n → f < length old → ReadsParts old (f + 1) false n.parts ts
    → Placed new ts f (f + signs ts) top → Same old new f (f + signs ts) → IsSound new names
sound_placed old new names f n ts top sound there within reads placed same =
    let longer = same.long in
    let some = sound.some in
    let few = sound.few in
    let total = ends old (f + 1) false n.parts ts reads (omega arith) in
    let fit : EachOf (StandsBetween (f + signs ts) (length new)) ts = rw longer (between old f (f + signs ts) (f + 1) false n.parts ts reads (sound.behind f n there)
    (λ k low high. sign_nodes old (f + 1) false n.parts ts reads k (omega arith) (omega arith))) in
    let are = named old names (f + 1) false n.parts ts reads sound.named in
    let placed_at = sound_at (f + signs ts) (length new) names placed fit are (omega arith) (omega arith) in
    record {
      some = omega arith;
      few = omega arith;
      behind = λ i n e. elim (less_or_not i f) [
        | inl p ↦ rw longer (sound.behind i n (sym (same.before i p) ∙ e))
        | inr p ↦ elim (less_or_not i (f + signs ts)) [ inl q ↦ (placed_at i n p q e).0 | inr q ↦ rw longer (sound.behind i n (sym (same.behind i q) ∙ e)) ]
      ];
      named = λ i n e. elim (less_or_not i f) [
        | inl p ↦ sound.named i n (sym (same.before i p) ∙ e)
        | inr p ↦ elim (less_or_not i (f + signs ts)) [ inl q ↦ (placed_at i n p q e).1 | inr q ↦ sound.named i n (sym (same.behind i q) ∙ e) ]
      ];
    }
