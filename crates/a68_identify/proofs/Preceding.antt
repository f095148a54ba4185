-- Operators that related ones precede.
use Rattle.std.proofs.Common.{◌≡◌, ◌+◌, ◌⊎◌, inl, inr, ⊎_elim, ℕ, List, [], length, take, refl, sym, ap, ◌∙◌, arith, subst, Some, None, slice_get, Option, Bool, true, false, nat_eq, eqb-true}
use Rattle.std.specs.Prelude.{◌↔◌, ◌&&◌, IsTrue}
use Rattle.std.specs.List.{Contains}
use Rattle.std.proofs.lemmas.Bool.{false≢true}
use Rattle.std.proofs.lemmas.Bool.Decides.{eqb_tells}
use Rattle.a68_declare.specs.Outcome.{ByNode}
use Rattle.a68_equiv.specs.Related.{AreRelated}
use Rattle.a68_identify.specs.Pairs.{Pairwise}
use Rattle.a68_identify.specs.Operators.{is_operator_definition, defines_sign, operand_modes, AreRelatedOperators, IsRelatedTo, IsRelatedAt, IsRelatedIn, IsRelatedBefore, IsRelatedPair}
use Rattle.a68_modes.specs.declared.shape.Shape.{Shape}
use Rattle.a68_ranges.proofs.Indexing.{least_one, declares_nothing}
use Rattle.a68_ranges.proofs.Taking.{below_or, is_there, some_one}
use Rattle.a68_ranges.specs.Definitions.{declared_in}
use Rattle.a68_ranges.specs.Indexed.{IsLeast, earlier_of}
use Rattle.a68_ranges.specs.Nodes.{kind_at, name_at, place_at}
use Rattle.a68_tree.specs.Trees.{Built}

both : (a b : Bool) → (a && b) ≡ true → (a ≡ true) × (b ≡ true)
both true b e = (refl, e)
both false b e = absurd (false≢true e)

sign_is : (tree : Built) (sign d : ℕ) → defines_sign tree sign d ≡ true → name_at tree d ≡ sign
sign_is tree sign d e = eqb-true (name_at tree d) sign ((both (is_operator_definition (kind_at tree d)) (nat_eq (name_at tree d) sign) e).1)

module _ (tree : Built) (nodes : List Shape) (of : ByNode) where
  -- one of these is related to that definition
  abbrev pub HasRelated : List ℕ → ℕ → Type 0
  HasRelated before later = (one : ℕ) × Contains before one × AreRelatedOperators tree nodes of one later

  pub never_late : (before : List ℕ) (later : ℕ) → defines_sign tree (name_at tree later) later ≡ false → IsTrue false ↔ HasRelated before later
  never_late before later other = (
    λ t. absurd (false≢true t),
    λ w.
        let r = w.2 in
        let name = sign_is tree r.sign later r.other_is in
        absurd (false≢true (sym other ∙ ap (λ s. defines_sign tree s later) name ∙ r.other_is)),
  )

  pub late_where : (before : List ℕ) (later sign : ℕ) (others : List ℕ) (late : Bool) → sign ≡ name_at tree later → defines_sign tree sign later ≡ true → others ≡ operand_modes tree of later
      → (IsTrue late ↔ ((one : ℕ) × Contains before one × IsRelatedTo tree nodes of sign others one)) → IsTrue late ↔ HasRelated before later
  late_where before later sign others late name is modes any = (
    λ t.
        let w = any.0 t in
        (w.0, w.1, record { sign = sign; one_is = w.2.0; other_is = is; related = subst (λ (ms : List ℕ). Pairwise (AreRelated nodes) (operand_modes tree of w.0) ms) modes w.2.1 }),
    λ w.
        let r = w.2 in
        let same : r.sign ≡ sign = sym (sign_is tree r.sign later r.other_is) ∙ sym name in
        any.1 (w.0, w.1, (ap (λ s. defines_sign tree s w.0) (sym same) ∙ r.one_is, subst (λ (ms : List ℕ). Pairwise (AreRelated nodes) (operand_modes tree of w.0) ms) (sym modes) r.related)),
  )

  -- ---- one place more of a list

  module _ (list : List ℕ) (i d : ℕ) (is : slice_get list i ≡ Some d) where
    at_or : (x : ℕ) → IsRelatedIn tree nodes of list (i + 1) x → IsRelatedIn tree nodes of list i x ⊎ IsRelatedAt tree nodes of list i x
    at_or x l = ⊎_elim (λ h. inr (subst (λ k. IsRelatedAt tree nodes of list k x) h.1 l.2)) (λ h. let p = l.1 in let n = h.1 in inl (l.0, omega arith, l.2)) (eqb_tells l.0 i)

    in_more : (x : ℕ) → IsRelatedIn tree nodes of list i x → IsRelatedIn tree nodes of list (i + 1) x
    in_more x l = let p = l.1 in (l.0, omega arith, l.2)

    only_here : (x : ℕ) → IsRelatedAt tree nodes of list i x → x ≡ d
    only_here x l = some_one (sym l.is ∙ is)

    pub least_late : (found : Option ℕ) → IsLeast tree (IsRelatedIn tree nodes of list i) found → HasRelated (take i list) d → IsLeast tree (IsRelatedIn tree nodes of list (i + 1)) (earlier_of tree found (Some d))
    least_late found before late =
        least_one tree (IsRelatedIn tree nodes of list i) (IsRelatedAt tree nodes of list i) (IsRelatedIn tree nodes of list (i + 1)) found (Some d) at_or in_more
        (λ x l. (i, omega arith, l)) before
        (record { is = is; earlier = late.0; before = late.1; related = late.2 }, λ x l. let same = ap (place_at tree) (only_here x l) in omega arith)

    not_here : (HasRelated (take i list) d → ⊥) → (x : ℕ) → IsRelatedAt tree nodes of list i x → ⊥
    not_here none x l = none (l.earlier, l.before, subst (λ y. AreRelatedOperators tree nodes of l.earlier y) (only_here x l) l.related)

    pub least_not_late : (found : Option ℕ) → IsLeast tree (IsRelatedIn tree nodes of list i) found → (HasRelated (take i list) d → ⊥) → IsLeast tree (IsRelatedIn tree nodes of list (i + 1)) found
    least_not_late None before none = λ x l. ⊎_elim (λ h. before x h) (λ h. not_here none x h) (at_or x l)
    least_not_late (Some y) before none = (in_more y before.0, λ x l. ⊎_elim (λ h. before.1 x h) (λ h. absurd (not_here none x h)) (at_or x l))

  -- ---- one range more

  pub least_range : (count : ℕ) (found other : Option ℕ) → IsLeast tree (IsRelatedBefore tree nodes of count) found
      → IsLeast tree (IsRelatedIn tree nodes of (declared_in tree count) (length (declared_in tree count))) other → IsLeast tree (IsRelatedBefore tree nodes of (count + 1)) (earlier_of tree found other)
  least_range count found other a b =
      least_one tree (IsRelatedBefore tree nodes of count) (IsRelatedIn tree nodes of (declared_in tree count) (length (declared_in tree count))) (IsRelatedBefore tree nodes of (count + 1)) found other
      (λ x l. ⊎_elim (λ h. inr (subst (λ k. IsRelatedIn tree nodes of (declared_in tree k) (length (declared_in tree k)) x) h.1 l.2))
      (λ h. let p = l.1 in let n = h.1 in inl (l.0, omega arith, l.2)) (eqb_tells l.0 count))
      (λ x l. let p = l.1 in (l.0, omega arith, l.2))
      (λ x l. (count, omega arith, l)) a b

  pair_there : (x : ℕ) → IsRelatedPair tree nodes of x → IsRelatedBefore tree nodes of (length tree.nodes) x
  pair_there x p =
      let at = p.related in
      ⊎_elim (λ h. (p.range, h, (p.place, is_there (declared_in tree p.range) p.place x at.is, at)))
      (λ h. let e : slice_get [] p.place ≡ Some x = subst (λ (xs : List ℕ). slice_get xs p.place ≡ Some x) (declares_nothing tree p.range h) at.is in absurd (cc))
      (below_or p.range (length tree.nodes))

  there_pair : (x : ℕ) → IsRelatedBefore tree nodes of (length tree.nodes) x → IsRelatedPair tree nodes of x
  there_pair x b = record { range = b.0; place = b.2.0; related = b.2.2 }

  pub least_pair : (count : ℕ) (found : Option ℕ) → count ≡ length tree.nodes → IsLeast tree (IsRelatedBefore tree nodes of count) found → IsLeast tree (IsRelatedPair tree nodes of) found
  least_pair count found all before = go found (subst (λ n. IsLeast tree (IsRelatedBefore tree nodes of n) found) all before)
    where
      go : (o : Option ℕ) → IsLeast tree (IsRelatedBefore tree nodes of (length tree.nodes)) o → IsLeast tree (IsRelatedPair tree nodes of) o
      go None b = λ x p. b x (pair_there x p)
      go (Some y) b = (there_pair y b.0, λ x p. b.1 x (pair_there x p))
