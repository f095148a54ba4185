-- Modes that lead to others among some, found by their classes.
use Rattle.std.proofs.Common.{◌≡◌, ◌<◌, ◌++◌, ℕ, zero, suc, List, [], ◌∷◌, Bool, true, false, length, get_or, refl, sym, ap, ◌∙◌, arith, subst, inl, ⊎_elim, nat_eq}
use Rattle.std.specs.Prelude.{◌↔◌, IsTrue, ◌&&◌, ◌||◌, not, cond}
use Rattle.std.specs.List.{All, Contains, list_any}
use Rattle.std.proofs.lemmas.Bool.{false≢true}
use Rattle.std.proofs.lemmas.Bool.Decides.{eqb_tells}
use Rattle.std.proofs.lemmas.List.{get_or_default, map-append}
use Rattle.std.proofs.lemmas.List.Elements.{All-contains, Contains-get_or}
use Rattle.std.proofs.lemmas.List.Folds.{list_any-append}
use Rattle.std.proofs.lemmas.Map.Views.{Contains-from_any, list_any-from_Contains, exact_unsigned_eq}
use Rattle.std.proofs.lemmas.Cmp.{nat_eq_equiv}
use Rattle.a68_declare.proofs.Judging.{same_turned}
use Rattle.a68_declare.specs.Broken.{AreClashing}
use Rattle.a68_declare.specs.Unions.{HasClasses, LeadsAway, classes_at, has_other}
use Rattle.a68_equiv.proofs.Meekly.{advance, retreat, stop, arrived}
use Rattle.a68_equiv.specs.declared.mode.Mode.{Mode}
use Rattle.a68_equiv.specs.Classes.{class_of, AreExact}
use Rattle.a68_equiv.specs.Related.{as_it_stands, meek_step}
use Rattle.a68_equiv.specs.Unfolding.{unfolded, Equivalent}
use Rattle.a68_modes.specs.declared.shape.Shape.{Shape}
use Rattle.std.specs.declared.option.Option.TheVariants.{None, Some}

first : (m : ℕ) (ms : List ℕ) → Contains (m ∷ ms) m
first m ms = (0, omega arith, refl)

later : (m : ℕ) (ms : List ℕ) (y : ℕ) → Contains ms y → Contains (m ∷ ms) y
later m ms y i = (suc i.0, (let l = i.1 in omega arith), i.2)

-- ---- the classes of these modes

module _ (classes : List ℕ) where
  in_map : (members : List ℕ) (class : ℕ) → Contains (classes_at classes members) class → (y : ℕ) × Contains members y × (class ≡ class_of classes (as_it_stands y))
  in_map [] class i = absurd (let l = i.1 in omega arith)
  in_map (m ∷ ms) class (zero, l, e) = (m, first m ms, sym e)
  in_map (m ∷ ms) class (suc k, l, e) = let r = in_map ms class (k, omega arith, e) in (r.0, later m ms r.0 r.1, r.2)

  to_map : (members : List ℕ) (y : ℕ) → Contains members y → Contains (classes_at classes members) (class_of classes (as_it_stands y))
  to_map [] y i = absurd (let l = i.1 in omega arith)
  to_map (m ∷ ms) y (zero, l, e) = (zero, omega arith, ap (λ k. class_of classes (as_it_stands k)) e)
  to_map (m ∷ ms) y (suc k, l, e) = later (class_of classes (as_it_stands m)) (classes_at classes ms) (class_of classes (as_it_stands y)) (to_map ms y (k, omega arith, e))

  or_true : (b : Bool) → true ≡ (b || true)
  or_true true = refl
  or_true false = refl

  or_false : (b : Bool) → b ≡ (b || false)
  or_false true = refl
  or_false false = refl

  -- one class more
  pub class_added : (members set now : List ℕ) (m : ℕ) → HasClasses classes members set
      → ((x : ℕ) → list_any (nat_eq x) now ≡ cond (nat_eq (class_of classes (as_it_stands m)) x) true (list_any (nat_eq x) set)) → HasClasses classes (members ++ m ∷ []) now
  class_added members set now m known updates x =
      updates x ∙ go (nat_eq x class) refl
      ∙ sym (list_any-append (nat_eq x) (classes_at classes members) (class ∷ [])) ∙ ap (list_any (nat_eq x)) (sym (map-append (λ k. class_of classes (as_it_stands k)) members (m ∷ [])))
    where
      class : ℕ
      class = class_of classes (as_it_stands m)

      go : (b : Bool) → nat_eq x class ≡ b → cond (nat_eq class x) true (list_any (nat_eq x) set) ≡ (list_any (nat_eq x) (classes_at classes members) || list_any (nat_eq x) (class ∷ []))
      go true e = rw (← nat_eq_equiv.symm x class, e) (or_true (list_any (nat_eq x) (classes_at classes members)))
      go false e = rw (← nat_eq_equiv.symm x class, e, known x) (or_false (list_any (nat_eq x) (classes_at classes members)))

-- ---- a mode that is met on the way

both : (a b : Bool) → (not a && b) ≡ true → (a ≡ false) × (b ≡ true)
both true b e = absurd (false≢true e)
both false b e = (refl, e)

neither : (a b : Bool) → (not a && b) ≡ false → a ≡ false → b ≡ true → ⊥
neither true b e f g = false≢true (sym f)
neither false b e f g = false≢true (sym e ∙ g)

module _ (nodes : List Shape) (classes : List ℕ) (exact : AreExact nodes classes) (members set : List ℕ) (below : All (λ m. m < length nodes) members) (known : HasClasses classes members set) (one : ℕ) (there : one < length nodes) (at : Mode) (h : at.id < length nodes) where
  own : ℕ
  own = class_of classes (as_it_stands one)

  inside : (y : ℕ) → Contains members y → y < length nodes
  inside y i = All-contains (λ k. k < length nodes) members y below i

  other_is : has_other classes set (class_of classes (as_it_stands one)) at ≡ true → (y : ℕ) × Contains members y × (Equivalent nodes (as_it_stands one) (as_it_stands y) → ⊥) × Equivalent nodes at (as_it_stands y)
  other_is e = ⊎_elim (λ s. absurd (false≢true (sym (both (nat_eq (class_of classes at) (class_of classes (as_it_stands one))) (list_any (nat_eq (class_of classes at)) set) e).0 ∙ s.0))) go (eqb_tells (class_of classes at) (class_of classes (as_it_stands one)))
    where
      go : (nat_eq (class_of classes at) (class_of classes (as_it_stands one)) ≡ false) × (class_of classes at ≡ class_of classes (as_it_stands one) → ⊥)
          → (y : ℕ) × Contains members y × (Equivalent nodes (as_it_stands one) (as_it_stands y) → ⊥) × Equivalent nodes at (as_it_stands y)
      go s =
          let k = (both (nat_eq (class_of classes at) (class_of classes (as_it_stands one))) (list_any (nat_eq (class_of classes at)) set) e).1 in
          let r = in_map classes members (class_of classes at) (Contains-from_any exact_unsigned_eq (class_of classes at) (classes_at classes members) (sym (known (class_of classes at)) ∙ k)) in
          (r.0, r.1, λ eq. s.1 (r.2 ∙ sym ((exact.exact (as_it_stands one) (as_it_stands r.0) there (inside r.0 r.1)).1 eq)), (exact.exact at (as_it_stands r.0) h (inside r.0 r.1)).0 r.2)

  none_other : has_other classes set (class_of classes (as_it_stands one)) at ≡ false → (y : ℕ) → Contains members y → (Equivalent nodes (as_it_stands one) (as_it_stands y) → ⊥) → Equivalent nodes at (as_it_stands y) → ⊥
  none_other e y i ne eq =
      let same : class_of classes at ≡ class_of classes (as_it_stands y) = (exact.exact at (as_it_stands y) h (inside y i)).1 eq in
      let k : list_any (nat_eq (class_of classes at)) set ≡ true =
      known (class_of classes at) ∙ list_any-from_Contains nat_eq_equiv (class_of classes at) (classes_at classes members) (subst (Contains (classes_at classes members)) (sym same) (to_map classes members y i))
      in
      ⊎_elim (λ s. ne ((exact.exact (as_it_stands one) (as_it_stands y) there (inside y i)).0 (sym s.1 ∙ same)))
      (λ s. neither (nat_eq (class_of classes at) (class_of classes (as_it_stands one))) (list_any (nat_eq (class_of classes at)) set) e s.0 k)
      (eqb_tells (class_of classes at) (class_of classes (as_it_stands one)))

  -- what the loop over the steps finds
  module _ (so : LeadsAway nodes members one at ↔ LeadsAway nodes members one (as_it_stands one)) where
    pub away : has_other classes set (class_of classes (as_it_stands one)) at ≡ true → IsTrue true ↔ LeadsAway nodes members one (as_it_stands one)
    away e = (λ t. let r = other_is e in so.0 (r.0, r.1, r.2, arrived nodes at (as_it_stands r.0) r.3), λ w. refl)

    pub nowhere : meek_step (unfolded nodes at.id) ≡ None → has_other classes set (class_of classes (as_it_stands one)) at ≡ false → IsTrue false ↔ LeadsAway nodes members one (as_it_stands one)
    nowhere f e = (λ t. absurd (false≢true t), λ w. let v = so.1 w in absurd (stop nodes at (as_it_stands v.0) f (none_other e v.0 v.1 v.2) v.3))

    pub onwards : (next : Mode) → meek_step (unfolded nodes at.id) ≡ Some next → has_other classes set (class_of classes (as_it_stands one)) at ≡ false → LeadsAway nodes members one next ↔ LeadsAway nodes members one (as_it_stands one)
    onwards next f e = (
      λ w. so.0 (w.0, w.1, w.2, retreat nodes at (as_it_stands w.0) next f w.3),
      λ w. let v = so.1 w in (v.0, v.1, v.2, advance nodes at (as_it_stands v.0) next f (none_other e v.0 v.1 v.2) v.3),
    )

-- ---- all of them

pub clash_is : (nodes : List Shape) (members : List ℕ) (k : ℕ) → k < length members → LeadsAway nodes members (get_or members k 0) (as_it_stands (get_or members k 0)) → AreClashing nodes members
clash_is nodes members k lt w = (get_or members k 0, w.0, Contains-get_or members k 0 lt, w.1, (w.2, inl w.3))

pub none_clash : (nodes : List Shape) (classes : List ℕ) → AreExact nodes classes → (members : List ℕ) → All (λ m. m < length nodes) members
    → ((k : ℕ) → k < length members → LeadsAway nodes members (get_or members k 0) (as_it_stands (get_or members k 0)) → ⊥) → AreClashing nodes members → ⊥
none_clash nodes classes exact members below none w = ⊎_elim
    (λ l. at w.0 w.2 (w.1, w.3, w.4.0, l))
    (λ l. at w.1 w.3 (w.0, w.2, (λ e. w.4.0 (same_turned nodes classes exact w.1 w.0 (inside w.1 w.3) (inside w.0 w.2) e)), l))
    w.4.1
  where
    inside : (y : ℕ) → Contains members y → y < length nodes
    inside y i = All-contains (λ k. k < length nodes) members y below i

    at : (x : ℕ) → Contains members x → LeadsAway nodes members x (as_it_stands x) → ⊥
    at x i a = none i.0 i.1 (subst (λ k. LeadsAway nodes members k (as_it_stands k)) (sym (get_or_default members i.0 0 x i.1 ∙ i.2)) a)
