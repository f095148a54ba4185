-- What is found at a node is one.
use Rattle.std.proofs.Common.{◌≡◌, ◌<◌, ◌≤◌, ◌++◌, ◌∷◌, ◌∙◌, ◌⊎◌, inl, inr, ⊎_elim, [], ℕ, List, Option, None, Some, length, refl, sym, ap, subst, arith}
use Rattle.std.proofs.lemmas.Bool.{cases_lt}
use Rattle.a68_coerce.proofs.Leaves.{one_form}
use Rattle.a68_coerce.specs.Balanced.{FormsAt, IsFormed, IsSided, LeafForms}
use Rattle.a68_coerce.specs.declared.form.ModeForm.{ModeForm}
use Rattle.a68_coerce.specs.declared.form.ModeForm.TheVariants as form
use Rattle.a68_coerce.specs.declared.leaf.Balanced.{Balanced}
use Rattle.a68_coerce.specs.declared.leaf.Leaf.{Leaf}
use Rattle.a68_declare.specs.Outcome.{ByNode}
use Rattle.a68_equiv.specs.declared.mode.Mode.{Mode}
use Rattle.a68_identify.proofs.Answering.{operator_one}
use Rattle.a68_identify.proofs.Standing.{operator_low}
use Rattle.a68_identify.specs.declared.identified.Identified.{Identified}
use Rattle.a68_identify.specs.declared.identified.Identified.TheVariants.{Declared, Standard}
use Rattle.a68_mode_table.proofs.Shapes.{one_node}
use Rattle.a68_mode_table.specs.Growing.{AreSound, IsNode}
use Rattle.a68_modes.specs.declared.coercion.Sort.{Sort}
use Rattle.a68_modes.specs.declared.coercion.Sort.TheVariants as by
use Rattle.a68_modes.specs.declared.shape.Shape.{Shape}
use Rattle.a68_ranges.specs.Nodes.{kind_at, name_at, parts_at}
use Rattle.a68_tree.specs.Trees.{Built}
use Rattle.a68_yields.specs.Below.{IsFindingBelow, IsSoughtBelow, IsExpectationBelow}
use Rattle.a68_yields.specs.Found.{IsFound, IsModeFound, IsNameFound, IsOperatorFound, for_nothing, for_operand, for_operands, for_part, for_sides, for_unknown_operand, for_unknown_operands, for_unknown_part, for_unknown_sides}
use Rattle.a68_yields.specs.Leaves.{AllHaveLeaves, HasLeaves, HasNoLeaves, and_more, chosen, handed, is_open, left_out, no_more, one, several, yield_at}
use Rattle.a68_yields.specs.declared.sought.Sought.{Sought}
use Rattle.a68_yields.specs.declared.sought.Expectation.{Expectation}
use Rattle.a68_yields.specs.declared.sought.Expectation.TheVariants as want
use Rattle.a68_yields.specs.declared.yielding.Finding.{Finding}
use Rattle.a68_yields.specs.declared.yielding.Finding.TheVariants as finding
use Rattle.a68_yields.specs.declared.yielding.Yielding.{Yielding}

-- ---- the units of a node

head_of : {x y : ℕ} {xs zs : List ℕ} → x ∷ xs ≡ y ∷ zs → x ≡ y
head_of e = cc

tail_of : {x y : ℕ} {xs zs : List ℕ} → x ∷ xs ≡ y ∷ zs → xs ≡ zs
tail_of e = cc

module _ (tree : Built) (ys : List Yielding) where
  both_at : {n m : ℕ} {y z : Yielding} → yield_at ys n ≡ y → yield_at ys m ≡ z → n ≡ m → y ≡ z
  both_at p q e = sym p ∙ ap (yield_at ys) e ∙ q

  skips_at : ℕ → List Leaf
  skips_at n = left_out (is_open tree (kind_at tree n) (parts_at tree n))

  mutual
    unfolding skips_at

    pub leaves_one : {n m : ℕ} {a b : List Leaf} → HasLeaves tree ys n a → HasLeaves tree ys m b → n ≡ m → a ≡ b
    leaves_one (one l is e) (one k at f) same = let u = both_at is at same in e ∙ ap (λ x. x ∷ []) (let v : l ≡ k = cc in v) ∙ sym f
    leaves_one (one l is e) (handed p at has) same = let u = both_at is at same in absurd (cc)
    leaves_one (one l is e) (several those at all f) same = let u = both_at is at same in absurd (cc)
    leaves_one (handed p is has) (one k at f) same = let u = both_at is at same in absurd (cc)
    leaves_one (handed p is has) (handed q at more) same = let u = both_at is at same in leaves_one has more (let v : p ≡ q = cc in v)
    leaves_one (handed p is has) (several those at all f) same = let u = both_at is at same in absurd (cc)
    leaves_one (several those is all e) (one k at f) same = let u = both_at is at same in absurd (cc)
    leaves_one (several those is all e) (handed q at has) same = let u = both_at is at same in absurd (cc)
    leaves_one {n = n} {m = m} (several those is all e) (several others at more f) same =
        e ∙ ap (λ x. x ++ skips_at n) (all_one all more (ap (chosen tree) same)) ∙ ap (λ i. others ++ skips_at i) same ∙ sym f

    pub all_one : {ps qs : List ℕ} {a b : List Leaf} → AllHaveLeaves tree ys ps a → AllHaveLeaves tree ys qs b → ps ≡ qs → a ≡ b
    all_one (no_more e) (no_more f) same = e ∙ sym f
    all_one (no_more e) (and_more those others here rest f) same = absurd (cc)
    all_one (and_more those others here rest e) (no_more f) same = absurd (cc)
    all_one (and_more those others here rest e) (and_more these more there last f) same =
        e ∙ ap (λ x. x ++ others) (leaves_one here there (head_of same)) ∙ ap (λ x. these ++ x) (all_one rest last (tail_of same)) ∙ sym f

-- ---- balancing

module _ (nodes : List Shape) where
  form_at_one : (s : Sort) (f : ModeForm) (leaves : List Leaf) (i : ℕ) (to other : Mode) → FormsAt nodes s f to leaves i → FormsAt nodes s f other leaves i → to ≡ other
  form_at_one s f leaves i to other v w =
      let e : Some v.leaf ≡ Some w.leaf = sym v.there ∙ w.there in
      let same : v.leaf ≡ w.leaf = cc in
      one_form nodes s f to other w.leaf (subst (LeafForms nodes s f to) same v.leads) w.leads

  -- the first place is one
  first_place : (i j : ℕ) → (i < j → ⊥) → (j < i → ⊥) → i ≡ j
  first_place i j p q = ⊎_elim (λ lt. absurd (p lt)) (λ le. ⊎_elim (λ lt. absurd (q lt)) (λ ge. omega arith) (cases_lt j i)) (cases_lt i j)

  formed_one : (s : Sort) (f : ModeForm) (leaves : List Leaf) (b c : Balanced) → IsFormed nodes s f leaves (Some b) → IsFormed nodes s f leaves (Some c) → b.mode ≡ c.mode
  formed_one s f leaves b c v w =
      let same = first_place b.leaf c.leaf (λ lt. w.1 b.leaf b.mode lt v.0) (λ lt. v.1 c.leaf c.mode lt w.0) in
      form_at_one s f leaves c.leaf b.mode c.mode (subst (FormsAt nodes s f b.mode leaves) same v.0) w.0

  sided_one : (soft strong : List Leaf) (b c : Balanced) → IsSided nodes soft strong (Some b) → IsSided nodes soft strong (Some c) → b.mode ≡ c.mode
  sided_one soft strong b c v w =
      let same = first_place b.leaf c.leaf (λ lt. w.1 b.leaf b.mode lt v.0) (λ lt. v.1 c.leaf c.mode lt w.0) in
      form_at_one by.Soft form.Name soft c.leaf b.mode c.mode (subst (FormsAt nodes by.Soft form.Name b.mode soft) same v.0.0) w.0.0

  module _ (sound : AreSound nodes) where
    node_at_one : (to other : Mode) (x y : ℕ) → to ≡ other → IsNode nodes to x → IsNode nodes other y → Some x ≡ Some y
    node_at_one to other x y same p q = ap (λ i. Some i) (one_node nodes sound other x y (subst (λ m. IsNode nodes m x) same p) q)

    mode_found_one : (s : Sort) (w : Expectation) (leaves : List Leaf) (a b : Option ℕ) → IsModeFound nodes s w leaves a → IsModeFound nodes s w leaves b → a ≡ b
    mode_found_one s w leaves None None p q = refl
    mode_found_one s (want.Mode m) leaves (Some x) (Some y) p q = ap (λ i. Some i) (p.0 ∙ sym q.0)
    mode_found_one s (want.Mode m) leaves (Some x) None p q = absurd (q p.1 p.2.0)
    mode_found_one s (want.Mode m) leaves None (Some y) p q = absurd (p q.1 q.2.0)
    mode_found_one s (want.ModeForm f) leaves (Some x) (Some y) p q = node_at_one p.0.mode q.0.mode x y (formed_one s f leaves p.0 q.0 p.1 q.1) p.2 q.2
    mode_found_one s (want.ModeForm f) leaves (Some x) None p q = absurd (q p.0.leaf p.0.mode p.1.0)
    mode_found_one s (want.ModeForm f) leaves None (Some y) p q = absurd (p q.0.leaf q.0.mode q.1.0)

    is_sided : (soft strong : List Leaf) (b : Balanced) → IsSided nodes soft strong (Some b) → IsSided nodes soft strong None → ⊥
    is_sided soft strong b v none = none b.leaf b.mode v.0

    Sides : (left right : List Leaf) (b : Balanced) → Type 0
    Sides left right b = IsSided nodes left right (Some b) ⊎ (IsSided nodes left right None × IsSided nodes right left (Some b))

    sides_one : (left right : List Leaf) (b c : Balanced) → Sides left right b → Sides left right c → b.mode ≡ c.mode
    unfolding Sides
    sides_one left right b c (inl v) (inl w) = sided_one left right b c v w
    sides_one left right b c (inl v) (inr w) = absurd (is_sided left right b v w.0)
    sides_one left right b c (inr v) (inl w) = absurd (is_sided left right c w v.0)
    sides_one left right b c (inr v) (inr w) = sided_one right left b c v.1 w.1

    no_sides : (left right : List Leaf) (b : Balanced) → Sides left right b → IsSided nodes left right None → IsSided nodes right left None → ⊥
    unfolding Sides
    no_sides left right b (inl v) none never = is_sided left right b v none
    no_sides left right b (inr v) none never = is_sided right left b v.1 never

    name_found_one : (left right : List Leaf) (a b : Option ℕ) → IsNameFound nodes left right a → IsNameFound nodes left right b → a ≡ b
    unfolding Sides
    name_found_one left right None None p q = refl
    name_found_one left right (Some x) None p q = absurd (no_sides left right p.0 p.2 q.0 q.1)
    name_found_one left right None (Some y) p q = absurd (no_sides left right q.0 q.2 p.0 p.1)
    name_found_one left right (Some x) (Some y) p q = node_at_one p.0.mode q.0.mode x y (sides_one left right p.0 q.0 p.2 q.2) p.1 q.1

    module _ (tree : Built) (of : ByNode) (n : ℕ) where
      operator_found_one : (operands : List (List Leaf)) (a b : Option Identified) → IsOperatorFound tree nodes of n operands a → IsOperatorFound tree nodes of n operands b → a ≡ b
      operator_found_one operands None None p q = refl
      operator_found_one operands (Some x) None p q = absurd (q x p)
      operator_found_one operands None (Some y) p q = absurd (p y q)
      operator_found_one operands (Some x) (Some y) p q = ap (λ i. Some i) (operator_one tree nodes of n (name_at tree n) operands x y p q)

      module _ (ys : List Yielding) where
        refuted : {P : Type 0} {p q : ℕ} {leaves : List Leaf} → HasLeaves tree ys p leaves → HasNoLeaves tree ys q → p ≡ q → P
        refuted {leaves = leaves} has none same = absurd (none leaves (subst (λ i. HasLeaves tree ys i leaves) same has))

        either_refuted : {P : Type 0} {l r k m : ℕ} {left right : List Leaf} → HasLeaves tree ys l left → HasLeaves tree ys r right → HasNoLeaves tree ys k ⊎ HasNoLeaves tree ys m
            → l ≡ k → r ≡ m → P
        either_refuted here_has other (inl none) e f = refuted here_has none e
        either_refuted here_has other (inr none) e f = refuted other none f

        pub found_one : {s t : Sought} {f g : Finding} → IsFound tree nodes of ys n s f → IsFound tree nodes of ys n t g → s ≡ t → f ≡ g
        found_one for_nothing for_nothing e = refl
        found_one (for_part {sort = a} {w = w} {p = p} {found = x} leaves has is) (for_part {sort = b} {w = v} {p = q} {found = y} others more at) e =
            let sorts : b ≡ a = cc in
            let wants : v ≡ w = cc in
            let same = leaves_one tree ys more has (let u : q ≡ p = cc in u) in
            ap (λ i. finding.Mode i) (mode_found_one a w leaves x y is
            (subst (λ s. IsModeFound nodes s w leaves y) sorts (subst (λ i. IsModeFound nodes b i leaves y) wants (subst (λ ls. IsModeFound nodes b v ls y) same at))))
        found_one (for_part {p = p} leaves has is) (for_unknown_part {p = q} none) e = refuted has none (let u : p ≡ q = cc in u)
        found_one (for_unknown_part {p = p} none) (for_part {p = q} leaves has is) e = refuted has none (let u : q ≡ p = cc in u)
        found_one (for_unknown_part none) (for_unknown_part never) e = refl
        found_one (for_sides {l = l} {r = r} {found = x} left right here_has other is) (for_sides {l = k} {r = m} {found = y} first last first_has there at) e =
            let lefts = leaves_one tree ys first_has here_has (let u : k ≡ l = cc in u) in
            let rights = leaves_one tree ys there other (let u : m ≡ r = cc in u) in
            ap (λ i. finding.Mode i) (name_found_one left right x y is (subst (λ ls. IsNameFound nodes ls right y) lefts (subst (λ ls. IsNameFound nodes first ls y) rights at)))
        found_one (for_sides {l = l} {r = r} left right here_has other is) (for_unknown_sides {l = k} {r = m} none) e = either_refuted here_has other none (let u : l ≡ k = cc in u) (let u : r ≡ m = cc in u)
        found_one (for_unknown_sides {l = k} {r = m} none) (for_sides {l = l} {r = r} left right here_has other is) e = either_refuted here_has other none (let u : l ≡ k = cc in u) (let u : r ≡ m = cc in u)
        found_one (for_unknown_sides none) (for_unknown_sides never) e = refl
        found_one (for_operand {o = o} {found = x} leaves has is) (for_operand {o = q} {found = y} others more at) e =
            let same = leaves_one tree ys more has (let u : q ≡ o = cc in u) in
            ap (λ i. finding.Operator i) (operator_found_one (leaves ∷ []) x y is (subst (λ ls. IsOperatorFound tree nodes of n (ls ∷ []) y) same at))
        found_one (for_operand {o = p} leaves has is) (for_unknown_operand {o = q} none) e = refuted has none (let u : p ≡ q = cc in u)
        found_one (for_unknown_operand {o = p} none) (for_operand {o = q} leaves has is) e = refuted has none (let u : q ≡ p = cc in u)
        found_one (for_unknown_operand none) (for_unknown_operand never) e = refl
        found_one (for_operands {l = l} {r = r} {found = x} left right here_has other is) (for_operands {l = k} {r = m} {found = y} first last first_has there at) e =
            let lefts = leaves_one tree ys first_has here_has (let u : k ≡ l = cc in u) in
            let rights = leaves_one tree ys there other (let u : m ≡ r = cc in u) in
            ap (λ i. finding.Operator i) (operator_found_one (left ∷ right ∷ []) x y is
            (subst (λ ls. IsOperatorFound tree nodes of n (ls ∷ right ∷ []) y) lefts (subst (λ ls. IsOperatorFound tree nodes of n (first ∷ ls ∷ []) y) rights at)))
        found_one (for_operands {l = l} {r = r} left right here_has other is) (for_unknown_operands {l = k} {r = m} none) e = either_refuted here_has other none (let u : l ≡ k = cc in u) (let u : r ≡ m = cc in u)
        found_one (for_unknown_operands {l = k} {r = m} none) (for_operands {l = l} {r = r} left right here_has other is) e = either_refuted here_has other none (let u : l ≡ k = cc in u) (let u : r ≡ m = cc in u)
        found_one (for_unknown_operands none) (for_unknown_operands never) e = refl
        found_one _ _ e = absurd (cc)

-- ---- what is found is there

module _ (tree : Built) (nodes : List Shape) (of : ByNode) (ys : List Yielding) (n : ℕ) (many : 15 ≤ length nodes) where
  mode_there : (s : Sort) (w : Expectation) (leaves : List Leaf) (found : Option ℕ) → IsExpectationBelow (length nodes) w → IsModeFound nodes s w leaves found → IsFindingBelow (length nodes) (finding.Mode found)
  mode_there s w leaves None below is = tt
  mode_there s (want.Mode m) leaves (Some x) below is = subst (λ i. i < length nodes) (sym is.0) below
  mode_there s (want.ModeForm f) leaves (Some x) below is = is.2.there

  name_there : (left right : List Leaf) (found : Option ℕ) → IsNameFound nodes left right found → IsFindingBelow (length nodes) (finding.Mode found)
  name_there left right None is = tt
  name_there left right (Some x) is = is.1.there

  operator_is_there : (operands : List (List Leaf)) (found : Option Identified) → IsOperatorFound tree nodes of n operands found → IsFindingBelow (length nodes) (finding.Operator found)
  operator_is_there operands None is = tt
  operator_is_there operands (Some (Declared d)) is = tt
  operator_is_there operands (Some (Standard o)) is =
      let low : (o.left < 15) × (o.right < 15) × (o.result < 15) = operator_low tree nodes of n (name_at tree n) operands o is in
      let a : o.left < 15 = low.0 in let b : o.right < 15 = low.1 in let c : o.result < 15 = low.2 in (omega arith, omega arith, omega arith)

  pub found_there : {s : Sought} {f : Finding} → IsSoughtBelow (length nodes) s → IsFound tree nodes of ys n s f → IsFindingBelow (length nodes) f
  found_there below for_nothing = tt
  found_there below (for_part {sort = s} {w = w} {found = x} leaves has is) = mode_there s w leaves x below is
  found_there below (for_unknown_part none) = tt
  found_there below (for_sides {found = x} left right here_has other is) = name_there left right x is
  found_there below (for_unknown_sides none) = tt
  found_there below (for_operand {found = x} leaves has is) = operator_is_there (leaves ∷ []) x is
  found_there below (for_unknown_operand none) = tt
  found_there below (for_operands {found = x} left right here_has other is) = operator_is_there (left ∷ right ∷ []) x is
  found_there below (for_unknown_operands none) = tt
