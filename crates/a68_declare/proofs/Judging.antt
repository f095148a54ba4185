-- What the judgements on modes rest on.
use Rattle.std.proofs.Common.{◌≡◌, ◌<◌, ◌⊎◌, ◌+◌, ℕ, List, Bool, true, length, get_or, refl, sym, ap, ◌∙◌, arith, subst, inl, inr, ⊎_elim}
use Rattle.std.specs.Prelude.{◌↔◌, IsTrue}
use Rattle.std.specs.List.{All, Contains}
use Rattle.std.proofs.lemmas.Bool.{false≢true}
use Rattle.std.proofs.lemmas.Bool.Decides.{eqb_tells}
use Rattle.std.proofs.lemmas.List.{get_or_default}
use Rattle.std.proofs.lemmas.List.Elements.{All-contains}
use Rattle.a68_declare.specs.Broken.{IsClash, AreClashing, AreDifferent, HasRelated, HasNoTwo}
use Rattle.a68_declarers.proofs.There.{kind_past}
use Rattle.a68_declarers.specs.Declarers.{is_mode_definition}
use Rattle.a68_equiv.specs.Classes.{class_of, AreExact}
use Rattle.a68_equiv.specs.Related.{as_it_stands, IsSelfOrMember}
use Rattle.a68_equiv.specs.Unfolding.{unfolded, is_union, Equivalent, IsMember}
use Rattle.a68_modes.specs.declared.shape.Shape.{Shape}
use Rattle.a68_modes.specs.declared.shape.Shape.TheVariants.{Union}
use Rattle.a68_ranges.proofs.Taking.{below_or}
use Rattle.a68_ranges.specs.Nodes.{kind_at}
use Rattle.a68_tree.specs.Trees.{Built}

pub definition_there : (tree : Built) (d : ℕ) → is_mode_definition (kind_at tree d) ≡ true → d < length tree.nodes
definition_there tree d is = ⊎_elim (λ h. h) (λ h. absurd (false≢true (sym (ap is_mode_definition (kind_past tree d h)) ∙ is))) (below_or d (length tree.nodes))

-- ---- equivalence, by classes

module _ (nodes : List Shape) (classes : List ℕ) (exact : AreExact nodes classes) where
  pub same_turned : (a b : ℕ) → a < length nodes → b < length nodes → Equivalent nodes (as_it_stands a) (as_it_stands b) → Equivalent nodes (as_it_stands b) (as_it_stands a)
  same_turned a b h g e = (exact.exact (as_it_stands b) (as_it_stands a) g h).0 (sym ((exact.exact (as_it_stands a) (as_it_stands b) h g).1 e))

  pub same_joined : (a b c : ℕ) → a < length nodes → b < length nodes → c < length nodes → Equivalent nodes (as_it_stands a) (as_it_stands b) → Equivalent nodes (as_it_stands b) (as_it_stands c)
      → Equivalent nodes (as_it_stands a) (as_it_stands c)
  same_joined a b c h g k e f =
      (exact.exact (as_it_stands a) (as_it_stands c) h k).0 ((exact.exact (as_it_stands a) (as_it_stands b) h g).1 e ∙ (exact.exact (as_it_stands b) (as_it_stands c) g k).1 f)

  pub same_itself : (a : ℕ) → a < length nodes → Equivalent nodes (as_it_stands a) (as_it_stands a)
  same_itself a h = (exact.exact (as_it_stands a) (as_it_stands a) h h).0 refl

  pub clash_turned : (a b : ℕ) → a < length nodes → b < length nodes → IsClash nodes a b → IsClash nodes b a
  clash_turned a b h g c = (λ e. c.0 (same_turned b a g h e), ⊎_elim inr inl c.1)

  -- of all pairs none clashes, where none does with an earlier one
  pub no_pair : (members : List ℕ) → All (λ m. m < length nodes) members → ((j k : ℕ) → j < k → k < length members → IsClash nodes (get_or members k 0) (get_or members j 0) → ⊥)
      → (x y : ℕ) → Contains members x → Contains members y → IsClash nodes x y → ⊥
  no_pair members all none x y i j clash = ⊎_elim
      (λ l. ⊎_elim
      (λ less. none i.0 j.0 less j.1 (clash_turned (get_or members i.0 0) (get_or members j.0 0) (all i.0 0 i.1) (all j.0 0 j.1) at))
      (λ le. at.0 (subst (λ k. Equivalent nodes (as_it_stands (get_or members i.0 0)) (as_it_stands (get_or members k 0))) (let s : i.0 ≡ j.0 = omega arith in s) (same_itself (get_or members i.0 0) (all i.0 0 i.1))))
      (below_or i.0 j.0))
      (λ less. none j.0 i.0 (omega arith) i.1 at)
      (below_or i.0 (j.0 + 1))
    where
      at : IsClash nodes (get_or members i.0 0) (get_or members j.0 0)
      at = subst (λ a. IsClash nodes a (get_or members j.0 0)) (sym (get_or_default members i.0 0 x i.1 ∙ i.2)) (subst (λ b. IsClash nodes x b) (sym (get_or_default members j.0 0 y j.1 ∙ j.2)) clash)

  -- of all pairs none differs, where none does from the first
  pub none_differ : (members : List ℕ) → All (λ m. m < length nodes) members → ((k : ℕ) → k < length members → Equivalent nodes (as_it_stands (get_or members 0 0)) (as_it_stands (get_or members k 0)))
      → (x y : ℕ) → Contains members x → Contains members y → Equivalent nodes (as_it_stands x) (as_it_stands y)
  none_differ members all same x y i j =
      let a = get_or_default members i.0 0 x i.1 ∙ i.2 in
      let b = get_or_default members j.0 0 y j.1 ∙ j.2 in
      let first : 0 < length members = let l = i.1 in omega arith in
      subst (λ u. Equivalent nodes (as_it_stands u) (as_it_stands y)) a (subst (λ u. Equivalent nodes (as_it_stands (get_or members i.0 0)) (as_it_stands u)) b
      (same_joined (get_or members i.0 0) (get_or members 0 0) (get_or members j.0 0) (all i.0 0 i.1) (all 0 0 first) (all j.0 0 j.1)
      (same_turned (get_or members 0 0) (get_or members i.0 0) (all 0 0 first) (all i.0 0 i.1) (same i.0 i.1)) (same j.0 j.1)))

-- ---- the members of a union

abbrev pub AreMembers : List Shape → ℕ → List ℕ → Type 0
AreMembers nodes m members = (x : ℕ) → Contains members x ↔ IsMember nodes m x

pub among_are : (nodes : List Shape) (m : ℕ) (members : List ℕ) → is_union (unfolded nodes m) ≡ true → ((x : ℕ) → Contains members x ↔ IsSelfOrMember nodes m (unfolded nodes m) x) → AreMembers nodes m members
among_are nodes m members u among x = go (unfolded nodes m) u (among x)
  where
    go : (s : Shape) → is_union s ≡ true → Contains members x ↔ IsSelfOrMember nodes m s x → Contains members x ↔ IsMember nodes m x
    go (Union ms) u a = a
    go _ u a = absurd (false≢true u)

-- which members are wrong, by classes
pub wrong_members : (nodes : List Shape) (classes : List ℕ) → AreExact nodes classes → (m : ℕ) (members now : List ℕ) → now ≡ members → All (λ k. k < length nodes) members → AreMembers nodes m members
    → (b : Bool) → IsTrue b ↔ (AreClashing nodes now ⊎ (AreDifferent nodes now → ⊥)) → IsTrue b ↔ (HasRelated nodes m ⊎ HasNoTwo nodes m)
wrong_members nodes classes exact m members now e below are b wrong = (
  λ t. ⊎_elim
      (λ k. inl (record { one = k.0; other = k.1; one_is = (are k.0).0 (there k.0 k.2); other_is = (are k.1).0 (there k.1 k.3); clash = k.4 }))
      (λ n. inr (λ x y i j. decided x y (inside x i) (inside y j) (λ d. n (x, y, back x ((are x).1 i), back y ((are y).1 j), d))))
      (wrong.0 t),
  λ w. wrong.1 (⊎_elim
      (λ r. inl (r.one, r.other, back r.one ((are r.one).1 r.one_is), back r.other ((are r.other).1 r.other_is), r.clash))
      (λ none. inr (λ d. d.4 (none d.0 d.1 ((are d.0).0 (there d.0 d.2)) ((are d.1).0 (there d.1 d.3)))))
      w),
)
  where
    there : (x : ℕ) → Contains now x → Contains members x
    there x c = subst (λ (xs : List ℕ). Contains xs x) e c

    back : (x : ℕ) → Contains members x → Contains now x
    back x c = subst (λ (xs : List ℕ). Contains xs x) (sym e) c

    inside : (x : ℕ) → IsMember nodes m x → x < length nodes
    inside x i = All-contains (λ k. k < length nodes) members x below ((are x).1 i)

    decided : (x y : ℕ) → x < length nodes → y < length nodes → ((Equivalent nodes (as_it_stands x) (as_it_stands y) → ⊥) → ⊥) → Equivalent nodes (as_it_stands x) (as_it_stands y)
    decided x y h g never = ⊎_elim
        (λ s. (exact.exact (as_it_stands x) (as_it_stands y) h g).0 s.1)
        (λ s. absurd (never (λ eq. s.1 ((exact.exact (as_it_stands x) (as_it_stands y) h g).1 eq))))
        (eqb_tells (class_of classes (as_it_stands x)) (class_of classes (as_it_stands y)))
