-- Behind mode words, where all modes are well formed.
use Rattle.std.proofs.Common.{◌≡◌, ◌<◌, ◌⊎◌, ℕ, zero, suc, List, Option, Some, None, length, refl, sym, arith, subst, inl, inr, ⊎_elim}
use Rattle.std.specs.Prelude.{map}
use Rattle.std.specs.List.{Contains}
use Rattle.a68_equiv.proofs.Chains.{steps, counted, ends}
use Rattle.a68_equiv.proofs.Grasp.{behind_below}
use Rattle.a68_equiv.proofs.Growing.{way_below}
use Rattle.a68_equiv.proofs.Meekly.{way_join}
use Rattle.a68_equiv.proofs.Stepping.{row_of_map}
use Rattle.a68_equiv.specs.declared.steps.Inward.{Inward}
use Rattle.a68_equiv.specs.declared.steps.Inward.TheVariants.{BesidesNames, BesidesStructures, WithinUnions}
use Rattle.a68_equiv.specs.Unfolding.{behind, word_or, unfolded}
use Rattle.a68_equiv.specs.Ways.{steps_of, row, Way, AreWellFormed}
use Rattle.a68_equiv.specs.Ways.Way.{last_step, more_steps}
use Rattle.a68_modes.specs.declared.shape.Shape.{Shape}
use Rattle.a68_modes.specs.declared.shape.Shape.TheVariants.{Same}
use Rattle.a68_modes.specs.Nodes.{shape_at, ShapeIsWithin, HoldsNodes}

abbrev word_of : Shape → Option ℕ
word_of (Same t) = Some t
word_of _ = None

abbrev word_next : List Shape → ℕ → Option ℕ
word_next nodes m = word_of (shape_at nodes m)

-- as many steps as there are mode words lead behind all of them
at_end : (nodes : List Shape) (k m : ℕ) → steps (word_next nodes) k m < k → (t : ℕ) → shape_at nodes (behind nodes k m) ≡ Same t → ⊥
at_end nodes zero m h t e = omega arith
at_end nodes (suc k) m h t e = go (shape_at nodes m) refl (at_end nodes k) h e
  where
    go : (s : Shape) → shape_at nodes m ≡ s → ((u : ℕ) → steps (word_next nodes) k u < k → (t : ℕ) → shape_at nodes (behind nodes k u) ≡ Same t → ⊥)
        → counted (steps (word_next nodes) k) (word_of s) < suc k → shape_at nodes (word_or (behind nodes k) m s) ≡ Same t → ⊥
    go (Same u) f ih h e = ih u (omega arith) t e
    go _ f ih h e = cc

-- steps are taken from mode words
word_step : (which : Inward) (t : ℕ) → Contains (steps_of which (Same t)) t
word_step BesidesNames t = (0, omega arith, refl)
word_step BesidesStructures t = (0, omega arith, refl)
word_step WithinUnions t = (0, omega arith, refl)

-- where the same steps lead from two nodes, the same ways do
pub way_moved : (graph : List (List ℕ)) (a b z : ℕ) → row graph a ≡ row graph b → Way graph a z → Way graph b z
way_moved graph a b z e (last_step c) = last_step (subst (λ (xs : List ℕ). Contains xs z) e c)
way_moved graph a b z e (more_steps {b = k} c w) = more_steps (subst (λ (xs : List ℕ). Contains xs k) e c) w

module _ (nodes : List Shape) (holds : HoldsNodes nodes) where
  word_on : (which : Inward) (m t : ℕ) → m < length nodes → shape_at nodes m ≡ Same t → Contains (row (map (steps_of which) nodes) m) t
  word_on which m t h e = rw (row_of_map (steps_of which) nodes m h, e) (word_step which t)

  pub no_loops : AreWellFormed nodes → (m : ℕ) → m < length nodes → (t : ℕ) → unfolded nodes m ≡ Same t → ⊥
  no_loops formed m h = at_end nodes (length nodes) m (ends (word_next nodes) (length nodes) (Way (map (steps_of BesidesNames) nodes)) inside step (way_join (map (steps_of BesidesNames) nodes)) (λ x g w. (formed x g).names w) m h)
    where
      word_is : (s : Shape) (k : ℕ) → word_of s ≡ Some k → s ≡ Same k
      word_is (Same t) k e = cc
      word_is _ k e = absurd (cc)

      step : (m k : ℕ) → m < length nodes → word_next nodes m ≡ Some k → Way (map (steps_of BesidesNames) nodes) m k
      step m k h e = last_step (word_on BesidesNames m k h (word_is (shape_at nodes m) k e))

      inside : (m k : ℕ) → m < length nodes → word_next nodes m ≡ Some k → k < length nodes
      inside m k h e = way_below nodes holds BesidesNames m k h (step m k h e)

  to_head : (which : Inward) (k m : ℕ) → m < length nodes → (m ≡ behind nodes k m) ⊎ Way (map (steps_of which) nodes) m (behind nodes k m)
  to_head which zero m h = inl refl
  to_head which (suc k) m h = go (shape_at nodes m) refl (holds.within m h) (to_head which k)
    where
      go : (s : Shape) → shape_at nodes m ≡ s → ShapeIsWithin (length nodes) s
          → ((t : ℕ) → t < length nodes → (t ≡ behind nodes k t) ⊎ Way (map (steps_of which) nodes) t (behind nodes k t)) → (m ≡ word_or (behind nodes k) m s) ⊎ Way (map (steps_of which) nodes) m (word_or (behind nodes k) m s)
      go (Same t) e w ih =
          let lt : t < length nodes = w 0 0 (omega arith) in
          let i = word_on which m t h e in
          inr (⊎_elim (λ same. subst (λ (x : ℕ). Way (map (steps_of which) nodes) m x) same (last_step i)) (λ v. more_steps i v) (ih t lt))
      go _ e w ih = inl refl

  -- a way leads to each mode to which a step leads from what stands behind the mode words
  pub way_behind : (which : Inward) (m x : ℕ) → m < length nodes → Contains (steps_of which (unfolded nodes m)) x → Way (map (steps_of which) nodes) m x
  way_behind which m x h c =
      let head = behind nodes (length nodes) m in
      let lt = behind_below nodes holds (length nodes) m h in
      let i : Contains (row (map (steps_of which) nodes) head) x = rw (row_of_map (steps_of which) nodes head lt) c in
      ⊎_elim (λ same. subst (λ (y : ℕ). Way (map (steps_of which) nodes) y x) (sym same) (last_step i))
      (λ w. way_join (map (steps_of which) nodes) m head x w (last_step i)) (to_head which (length nodes) m h)
