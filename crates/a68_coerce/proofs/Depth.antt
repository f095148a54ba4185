-- A row of rows is deeper than the rows in it.
use Rattle.std.proofs.Common.{◌≡◌, ◌<◌, ◌⊎◌, ◌+◌, ◌*◌, ◌-◌, ◌^◌, ℕ, zero, suc, List, [], ◌∷◌, Bool, true, false, Option, Some, None, nat_eq, length, refl, sym, ap, arith, subst, inl, inr, ⊎_elim}
use Rattle.std.specs.Prelude.{map, if◌then◌else◌}
use Rattle.std.specs.List.{Contains}
use Rattle.a68_modes.specs.declared.shape.Shape.{Shape}
use Rattle.a68_modes.specs.declared.shape.Shape.TheVariants.{Rows, Same}
use Rattle.a68_modes.specs.Nodes.{shape_at, ShapeIsWithin, HoldsNodes}
use Rattle.a68_equiv.specs.declared.mode.Mode.{Mode}
use Rattle.a68_equiv.specs.declared.steps.Inward.TheVariants.{BesidesNames}
use Rattle.a68_equiv.specs.Ways.{steps_of, row, Way, AreWellFormed}
use Rattle.a68_equiv.specs.Ways.Way.{last_step, more_steps}
use Rattle.a68_equiv.specs.Unfolding.{behind, word_or, unfolded}
use Rattle.a68_equiv.proofs.Stepping.{row_of_map}
use Rattle.a68_equiv.proofs.Grasp.{behind_below}
use Rattle.a68_equiv.proofs.Chains.{steps, falls, counted as counted_there}
use Rattle.a68_equiv.proofs.Meekly.{way_join}
use Rattle.a68_coerce.specs.declared.goal.CoercionGoal.TheVariants as goal
use Rattle.a68_coerce.specs.Goals.{row_of}
use Rattle.a68_equiv.specs.Dimensions.{HaveDimensions}
use Rattle.a68_coerce.specs.Below.{element_of, row_next, counted, rows_below, depth, depth_of_shape}

-- what dimensions a row has
pub dimensions : (nodes : List Shape) → HaveDimensions nodes → (m dims e : ℕ) (flex : Bool) → shape_at nodes m ≡ Rows dims flex e → (0 < dims) × (dims < 2 ^ 32)
dimensions nodes have m dims e flex is = rw is at (have m)

first : (a : ℕ) → Contains (a ∷ []) a
first a = (0, omega arith, refl)

-- the step to the element is one that the shield of names leaves
row_in : (s : Shape) (k : ℕ) → element_of s ≡ Some k → Contains (steps_of BesidesNames s) k
row_in (Rows dims flex a) k e = let same : a ≡ k = cc in subst (Contains (a ∷ [])) same (first a)
row_in _ k e = absurd (cc)

row_lower : (n : ℕ) (s : Shape) (k : ℕ) → ShapeIsWithin n s → element_of s ≡ Some k → k < n
row_lower n (Rows dims flex a) k h e = let same : a ≡ k = cc in let lt = h 0 0 (omega arith) in omega arith
row_lower n _ k h e = absurd (cc)

-- the same count as that of chains
pub same_count : (nodes : List Shape) (fuel m : ℕ) → rows_below nodes fuel m ≡ steps (row_next nodes) fuel m
same_count nodes zero m = refl
same_count nodes (suc fuel) m = go (row_next nodes m) (same_count nodes fuel)
  where
    go : (s : Option ℕ) → ((k : ℕ) → rows_below nodes fuel k ≡ steps (row_next nodes) fuel k) → counted (rows_below nodes fuel) s ≡ counted_there (steps (row_next nodes) fuel) s
    go None ih = refl
    go (Some k) ih = ap suc (ih k)

module _ (nodes : List Shape) (holds : HoldsNodes nodes) where
  to_head : (k m : ℕ) → m < length nodes → (m ≡ behind nodes k m) ⊎ Way (map (steps_of BesidesNames) nodes) m (behind nodes k m)
  to_head zero m h = inl refl
  to_head (suc k) m h = go (shape_at nodes m) refl (holds.within m h) (to_head k)
    where
      go : (s : Shape) → shape_at nodes m ≡ s → ShapeIsWithin (length nodes) s
          → ((t : ℕ) → t < length nodes → (t ≡ behind nodes k t) ⊎ Way (map (steps_of BesidesNames) nodes) t (behind nodes k t)) → (m ≡ word_or (behind nodes k) m s) ⊎ Way (map (steps_of BesidesNames) nodes) m (word_or (behind nodes k) m s)
      go (Same t) e w ih =
          let lt : t < length nodes = w 0 0 (omega arith) in
          let i : Contains (row (map (steps_of BesidesNames) nodes) m) t = rw (row_of_map (steps_of BesidesNames) nodes m h, e) (first t) in
          inr (⊎_elim (λ same. subst (λ (x : ℕ). Way (map (steps_of BesidesNames) nodes) m x) same (last_step i)) (λ v. more_steps i v) (ih t lt))
      go _ e w ih = inl refl

  inside : (m k : ℕ) → m < length nodes → row_next nodes m ≡ Some k → k < length nodes
  inside m k h e = row_lower (length nodes) (unfolded nodes m) k (holds.within (behind nodes (length nodes) m) (behind_below nodes holds (length nodes) m h)) e

  step : (m k : ℕ) → m < length nodes → row_next nodes m ≡ Some k → Way (map (steps_of BesidesNames) nodes) m k
  step m k h e =
      let head = behind nodes (length nodes) m in
      let lt = behind_below nodes holds (length nodes) m h in
      let i : Contains (row (map (steps_of BesidesNames) nodes) head) k = rw (row_of_map (steps_of BesidesNames) nodes head lt) (row_in (unfolded nodes m) k e) in
      ⊎_elim (λ same. subst (λ (x : ℕ). Way (map (steps_of BesidesNames) nodes) x k) (sym same) (last_step i))
      (λ w. way_join (map (steps_of BesidesNames) nodes) m head k w (last_step i)) (to_head (length nodes) m h)

  pub fewer_rows : AreWellFormed nodes → (m k : ℕ) → m < length nodes → row_next nodes m ≡ Some k → rows_below nodes (length nodes) k < rows_below nodes (length nodes) m
  fewer_rows formed m k h e =
      let f = falls (row_next nodes) (length nodes) (Way (map (steps_of BesidesNames) nodes)) inside step (way_join (map (steps_of BesidesNames) nodes)) (λ x g w. (formed x g).names w) m k h e in
      let s = same_count nodes (length nodes) k in
      let t = same_count nodes (length nodes) m in
      omega arith

  pub less_deep : AreWellFormed nodes → HaveDimensions nodes → (dims : ℕ) (flex : Bool) (of : Mode) → of.id < length nodes → 0 < dims
      → depth nodes (row_of dims flex of) < (rows_below nodes (length nodes) of.id + 1) * 2 ^ 32 + dims
  less_deep formed have dims flex of h pos = go (nat_eq dims 1)
    where
      element : (s : Shape) → unfolded nodes of.id ≡ s → depth_of_shape nodes s < (rows_below nodes (length nodes) of.id + 1) * 2 ^ 32 + dims
      element (Rows d f e) is =
          let less = fewer_rows formed of.id e h (ap element_of is) in
          let small = (dimensions nodes have (behind nodes (length nodes) of.id) d e f is).1 in
          omega arith
      element _ is = omega arith

      go : (b : Bool) → depth nodes (if b then goal.Mode of else goal.Row (dims - 1) flex of) < (rows_below nodes (length nodes) of.id + 1) * 2 ^ 32 + dims
      go true = element (unfolded nodes of.id) refl
      go false = omega arith
