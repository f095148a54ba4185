-- Meek coercions, one after the other.
use Rattle.std.proofs.Common.{◌≡◌, ◌<◌, ◌⊎◌, ℕ, zero, suc, List, [], ◌∷◌, true, false, Option, Some, None, length, get_or, refl, sym, ap, ◌∙◌, arith, subst, inl, inr, ⊎_elim}
use Rattle.std.specs.Prelude.{map, ◌↔◌, IsTrue}
use Rattle.std.specs.List.{Contains}
use Rattle.std.proofs.lemmas.List.{get_or_default}
use Rattle.a68_modes.specs.declared.shape.Shape.{Shape}
use Rattle.a68_modes.specs.declared.shape.Shape.TheVariants.{Void, Int, Long, Bool as bool_shape, Char, Bits, Sema, Layout, Ref, Rows, Struct, Union, Proc, Same, Blank}
use Rattle.a68_modes.specs.declared.coercion.Coercion.{Coercion}
use Rattle.a68_modes.specs.Nodes.{shape_at, ShapeIsWithin, HoldsNodes}
use Rattle.a68_equiv.specs.declared.mode.Mode.{Mode}
use Rattle.a68_equiv.specs.declared.steps.Inward.TheVariants.{BesidesStructures}
use Rattle.a68_equiv.specs.Ways.{steps_of, row, Way, AreWellFormed}
use Rattle.a68_equiv.specs.Ways.Way.{last_step, more_steps}
use Rattle.a68_equiv.specs.Unfolding.{behind, word_or, unfolded, is_union, Equivalent}
use Rattle.a68_equiv.specs.Related.{as_it_stands, without_flex, Meek, LeadsMeekly, meek_step, IsSelfOrMember}
use Rattle.a68_equiv.specs.Related.Meek.{here, deref, deproc}
use Rattle.a68_equiv.proofs.Stepping.{row_of_map}
use Rattle.a68_equiv.proofs.Grasp.{behind_below}
use Rattle.a68_equiv.proofs.Chains.{steps, falls}

abbrev pub id_of : Option Mode → Option ℕ
id_of None = None
id_of (Some m) = Some m.id

-- the node to which the next meek coercion leads
abbrev pub meek_next : List Shape → ℕ → Option ℕ
meek_next nodes m = id_of (meek_step (unfolded nodes m))

first : (a : ℕ) → Contains (a ∷ []) a
first a = (0, omega arith, refl)

-- such a step goes to a mode within the shape, and from no STRUCT and no PROC with parameters
step_in : (s : Shape) (k : ℕ) → id_of (meek_step s) ≡ Some k → Contains (steps_of BesidesStructures s) k
step_in (Ref a) k e = let same : a ≡ k = cc in subst (Contains (a ∷ [])) same (first a)
step_in (Proc [] a) k e = let same : a ≡ k = cc in subst (Contains (a ∷ [])) same (first a)
step_in (Proc (p ∷ ps) a) k e = absurd (cc)
step_in Void k e = absurd (cc)
step_in Int k e = absurd (cc)
step_in bool_shape k e = absurd (cc)
step_in Char k e = absurd (cc)
step_in Bits k e = absurd (cc)
step_in Long k e = absurd (cc)
step_in Sema k e = absurd (cc)
step_in Layout k e = absurd (cc)
step_in (Rows dims flex m) k e = absurd (cc)
step_in (Struct fields) k e = absurd (cc)
step_in (Union ms) k e = absurd (cc)
step_in (Same m) k e = absurd (cc)
step_in Blank k e = absurd (cc)

pub step_below : (n : ℕ) (s : Shape) (k : ℕ) → ShapeIsWithin n s → id_of (meek_step s) ≡ Some k → k < n
step_below n (Ref a) k h e = let same : a ≡ k = cc in let lt = h 0 0 (omega arith) in omega arith
step_below n (Proc [] a) k h e = let same : a ≡ k = cc in let lt = h 0 0 (omega arith) in omega arith
step_below n (Proc (p ∷ ps) a) k h e = absurd (cc)
step_below n Void k h e = absurd (cc)
step_below n Int k h e = absurd (cc)
step_below n bool_shape k h e = absurd (cc)
step_below n Char k h e = absurd (cc)
step_below n Bits k h e = absurd (cc)
step_below n Long k h e = absurd (cc)
step_below n Sema k h e = absurd (cc)
step_below n Layout k h e = absurd (cc)
step_below n (Rows dims flex m) k h e = absurd (cc)
step_below n (Struct fields) k h e = absurd (cc)
step_below n (Union ms) k h e = absurd (cc)
step_below n (Same m) k h e = absurd (cc)
step_below n Blank k h e = absurd (cc)

pub way_join : (graph : List (List ℕ)) (a b c : ℕ) → Way graph a b → Way graph b c → Way graph a c
way_join graph a b c (last_step i) w = more_steps i w
way_join graph a b c (more_steps {b = d} i v) w = more_steps i (way_join graph d b c v w)

module _ (nodes : List Shape) (holds : HoldsNodes nodes) where
  to_head : (k m : ℕ) → m < length nodes → (m ≡ behind nodes k m) ⊎ Way (map (steps_of BesidesStructures) nodes) m (behind nodes k m)
  to_head zero m h = inl refl
  to_head (suc k) m h = go (shape_at nodes m) refl (holds.within m h) (to_head k)
    where
      go : (s : Shape) → shape_at nodes m ≡ s → ShapeIsWithin (length nodes) s
          → ((t : ℕ) → t < length nodes → (t ≡ behind nodes k t) ⊎ Way (map (steps_of BesidesStructures) nodes) t (behind nodes k t)) → (m ≡ word_or (behind nodes k) m s) ⊎ Way (map (steps_of BesidesStructures) nodes) m (word_or (behind nodes k) m s)
      go (Same t) e w ih =
          let lt : t < length nodes = w 0 0 (omega arith) in
          let i : Contains (row (map (steps_of BesidesStructures) nodes) m) t = rw (row_of_map (steps_of BesidesStructures) nodes m h, e) (first t) in
          inr (⊎_elim (λ same. subst (λ (x : ℕ). Way (map (steps_of BesidesStructures) nodes) m x) same (last_step i)) (λ v. more_steps i v) (ih t lt))
      go _ e w ih = inl refl

  pub inside : (m k : ℕ) → m < length nodes → meek_next nodes m ≡ Some k → k < length nodes
  inside m k h e = step_below (length nodes) (unfolded nodes m) k (holds.within (behind nodes (length nodes) m) (behind_below nodes holds (length nodes) m h)) e

  step : (m k : ℕ) → m < length nodes → meek_next nodes m ≡ Some k → Way (map (steps_of BesidesStructures) nodes) m k
  step m k h e =
      let head = behind nodes (length nodes) m in
      let lt = behind_below nodes holds (length nodes) m h in
      let i : Contains (row (map (steps_of BesidesStructures) nodes) head) k = rw (row_of_map (steps_of BesidesStructures) nodes head lt) (step_in (unfolded nodes m) k e) in
      ⊎_elim (λ same. subst (λ (x : ℕ). Way (map (steps_of BesidesStructures) nodes) x k) (sym same) (last_step i))
      (λ w. way_join (map (steps_of BesidesStructures) nodes) m head k w (last_step i)) (to_head (length nodes) m h)

  pub shorter : AreWellFormed nodes → (m k : ℕ) → m < length nodes → meek_next nodes m ≡ Some k → steps (meek_next nodes) (length nodes) k < steps (meek_next nodes) (length nodes) m
  shorter formed m k h e =
      falls (meek_next nodes) (length nodes) (Way (map (steps_of BesidesStructures) nodes)) inside step (way_join (map (steps_of BesidesStructures) nodes)) (λ x g w. (formed x g).structures w) m k h e

module _ (nodes : List Shape) (at goal : Mode) where
  onward : (next : Mode) → meek_step (unfolded nodes at.id) ≡ Some next → (Equivalent nodes at goal → ⊥) → (k : Mode) (path : List Coercion) → Meek nodes at path k → Equivalent nodes k goal → LeadsMeekly nodes next goal
  onward next e ne k path here eq = absurd (ne eq)
  onward next e ne k path (deref {a = a} {path = p} f w) eq =
      let g = ap meek_step f in
      let same : without_flex a ≡ next = cc in
      (k, p, subst (λ (m : Mode). Meek nodes m p k) same w, eq)
  onward next e ne k path (deproc {a = a} {path = p} f w) eq =
      let g = ap meek_step f in
      let same : as_it_stands a ≡ next = cc in
      (k, p, subst (λ (m : Mode). Meek nodes m p k) same w, eq)

  -- the way to a mode that is not here goes on by the one step that there is
  pub advance : (next : Mode) → meek_step (unfolded nodes at.id) ≡ Some next → (Equivalent nodes at goal → ⊥) → LeadsMeekly nodes at goal → LeadsMeekly nodes next goal
  advance next e ne w = onward next e ne w.0 w.1 w.2 w.3

  pub retreat : (next : Mode) → meek_step (unfolded nodes at.id) ≡ Some next → LeadsMeekly nodes next goal → LeadsMeekly nodes at goal
  retreat next e w = go (unfolded nodes at.id) refl e
    where
      go : (s : Shape) → unfolded nodes at.id ≡ s → meek_step s ≡ Some next → LeadsMeekly nodes at goal
      go (Ref a) f g = let same : next ≡ without_flex a = cc in (w.0, _, deref f (subst (λ (m : Mode). Meek nodes m w.1 w.0) same w.2), w.3)
      go (Proc [] a) f g = let same : next ≡ as_it_stands a = cc in (w.0, _, deproc f (subst (λ (m : Mode). Meek nodes m w.1 w.0) same w.2), w.3)
      go (Proc (p ∷ ps) a) f g = absurd (cc)
      go Void f g = absurd (cc)
      go Int f g = absurd (cc)
      go bool_shape f g = absurd (cc)
      go Char f g = absurd (cc)
      go Bits f g = absurd (cc)
      go Long f g = absurd (cc)
      go Sema f g = absurd (cc)
      go Layout f g = absurd (cc)
      go (Rows dims flex m) f g = absurd (cc)
      go (Struct fields) f g = absurd (cc)
      go (Union ms) f g = absurd (cc)
      go (Same m) f g = absurd (cc)
      go Blank f g = absurd (cc)

  ended : meek_step (unfolded nodes at.id) ≡ None → (Equivalent nodes at goal → ⊥) → (k : Mode) (path : List Coercion) → Meek nodes at path k → Equivalent nodes k goal → ⊥
  ended e ne k path here eq = ne eq
  ended e ne k path (deref f w) eq = let g = ap meek_step f in cc
  ended e ne k path (deproc f w) eq = let g = ap meek_step f in cc

  pub stop : meek_step (unfolded nodes at.id) ≡ None → (Equivalent nodes at goal → ⊥) → LeadsMeekly nodes at goal → ⊥
  stop e ne w = ended e ne w.0 w.1 w.2 w.3

  pub arrived : Equivalent nodes at goal → LeadsMeekly nodes at goal
  arrived eq = (at, [], here, eq)

-- what the loop over the steps finds
module _ (nodes : List Shape) (at from goal : Mode) (so : LeadsMeekly nodes at goal ↔ LeadsMeekly nodes from goal) where
  pub found : Equivalent nodes at goal → IsTrue true ↔ LeadsMeekly nodes from goal
  found eq = (λ t. so.0 (arrived nodes at goal eq), λ w. refl)

  pub lost : meek_step (unfolded nodes at.id) ≡ None → (Equivalent nodes at goal → ⊥) → IsTrue false ↔ LeadsMeekly nodes from goal
  lost e ne = (λ t. absurd (cc), λ w. absurd (stop nodes at goal e ne (so.1 w)))

  pub goes : (next : Mode) → meek_step (unfolded nodes at.id) ≡ Some next → (Equivalent nodes at goal → ⊥) → LeadsMeekly nodes next goal ↔ LeadsMeekly nodes from goal
  goes next e ne = (λ w. so.0 (retreat nodes at goal next e w), λ w. advance nodes at goal next e ne (so.1 w))

-- nothing in the list has the property
pub none_in : (P : ℕ → Type 0) (xs : List ℕ) → ((k : ℕ) → k < length xs → P (get_or xs k 0) → ⊥) → (y : ℕ) → Contains xs y → P y → ⊥
none_in P xs no' y i p = no' i.0 i.1 (subst P (sym (get_or_default xs i.0 0 y i.1 ∙ i.2)) p)

-- a mode that is no union is all that is among it
pub among_itself : (nodes : List Shape) (m : ℕ) (s : Shape) → is_union s ≡ false → (x : ℕ) → Contains (m ∷ []) x ↔ IsSelfOrMember nodes m s x
among_itself nodes m (Union ms) e x = absurd (cc)
among_itself nodes m _ e x = (λ i. sym (only x i), λ f. subst (Contains (m ∷ [])) (sym f) (first m))
  where
    at_first : (k x : ℕ) → k < 1 → get_or (m ∷ []) k x ≡ x → m ≡ x
    at_first zero x h f = f
    at_first (suc k) x h f = absurd (omega arith)

    only : (x : ℕ) → Contains (m ∷ []) x → m ≡ x
    only x i = at_first i.0 x (let l = i.1 in omega arith) i.2
