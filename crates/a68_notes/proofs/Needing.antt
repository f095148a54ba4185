-- The needs of routine texts, as they are found.
use Rattle.std.proofs.Common.{◌≡◌, ◌<◌, ◌≤◌, ◌⊎◌, ◌∙◌, ℕ, ◌+◌, true, List, [], ◌∷◌, ◌++◌, length, refl, sym, ap, subst, inl, inr, ⊎_elim, arith, length-append, slice_get, Option, Some, None}
use Rattle.std.specs.Prelude.{slice_index_or}
use Rattle.std.specs.Option.{option_map_or}
use Rattle.std.proofs.lemmas.Bool.Decides.{eqb_tells}
use Rattle.a68_frames.specs.Frames.{makes_frame}
use Rattle.a68_frames.specs.Needs.{IsNeed, UsesSlotAt, UsesTag}
use Rattle.a68_frames.specs.Tables.{Lowers, TextUsesSlotAt}
use Rattle.a68_notes.specs.Needs.{AreLoweredBy, AreNeeds, TextUsesBefore, by_tag, by_operator}
use Rattle.a68_notes.specs.Notes.{applied_operator, UsesFrame}
use Rattle.a68_notes.specs.Notes.{by_tag as uses_by_tag, by_operator as uses_by_operator}
use Rattle.a68_positions.specs.Given.{finding_at}
use Rattle.a68_ranges.proofs.Layering.{get_pushed}
use Rattle.a68_ranges.proofs.Taking.{below_or, is_there, past, read}
use Rattle.a68_ranges.specs.Nodes.{kind_at}
use Rattle.a68_refusals.specs.First.{Asked}
use Rattle.a68_tree.specs.Trees.{Built}
use Rattle.a68_tree.specs.declared.kind.NodeKind.TheVariants as kind
use Rattle.a68_tree.specs.declared.node.Node.{Node}
use Rattle.a68_yields.specs.declared.yielding.Finding.{Finding}

-- ---- one need

-- what uses the same has the same need
same_need : (Old New : ℕ → Type 0) (need : Option ℕ) → ((n : ℕ) → Old n → New n) → ((n : ℕ) → New n → Old n) → IsNeed Old need → IsNeed New need
same_need Old New None to from is = λ n u. is n (from n u)
same_need Old New (Some n) to from is = (to n is.0, λ other u. is.1 other (from other u))

-- a need that is lowered to what is used besides
lower_need : (Old Used New : ℕ → Type 0) (before after : Option ℕ) → ((n : ℕ) → Old n → New n) → ((n : ℕ) → Used n → New n) → ((n : ℕ) → New n → Old n ⊎ Used n) → IsNeed Old before
    → Lowers Used before after → IsNeed New after
lower_need Old Used New None None old used split is l = λ n u. ⊎_elim (λ o. is n o) (λ o. l.all n o) (split n u)
lower_need Old Used New None (Some n) old used split is l =
    (⊎_elim (λ e. absurd (cc)) (λ u. used n u) (l.source n refl), λ other u. ⊎_elim (λ o. absurd (is other o)) (λ o. l.all other o) (split other u))
lower_need Old Used New (Some m) None old used split is l = absurd (l.kept m refl)
lower_need Old Used New (Some m) (Some n) old used split is l =
    let less : n ≤ m = l.kept m refl in (
      ⊎_elim (λ (e : Some m ≡ Some n). let same : m ≡ n = cc in subst New same (old m is.0)) (λ u. used n u) (l.source n refl),
      λ other u. ⊎_elim (λ o. let least = is.1 other o in omega arith) (λ o. l.all other o) (split other u),
    )

-- two needs of one thing are equal
pub one_need : (Used : ℕ → Type 0) (x y : Option ℕ) → IsNeed Used x → IsNeed Used y → x ≡ y
one_need Used None None p q = refl
one_need Used None (Some n) p q = absurd (p n q.0)
one_need Used (Some m) None p q = absurd (q m p.0)
one_need Used (Some m) (Some n) p q =
    let less = p.1 n q.0 in
    let more = q.1 m p.0 in
    let same : m ≡ n = omega arith in ap (λ k. Some k) same

-- ---- the needs by tags

pub no_needs : (tree : Built) (needs : List (Option ℕ)) → needs ≡ [] → AreNeeds tree (UsesTag tree) 0 needs
no_needs tree needs e = subst (AreNeeds tree (UsesTag tree) 0) (sym e) (record { long = refl; each = λ text need at form. absurd (cc) })

-- one node more
pub need_more : (tree : Built) (text : ℕ) (needs : List (Option ℕ)) (need : Option ℕ) (new : List (Option ℕ)) → AreNeeds tree (UsesTag tree) text needs
    → (kind_at tree text ≡ kind.RoutineText → IsNeed (UsesTag tree text) need) → new ≡ needs ++ need ∷ [] → AreNeeds tree (UsesTag tree) (text + 1) new
need_more tree text needs need new are is e =
    let long = are.long in
    subst (AreNeeds tree (UsesTag tree) (text + 1)) (sym e) (record {
      long = omega (arith, length-append needs (need ∷ []));
      each = λ n other at form. ⊎_elim
          (λ there. are.each n other there form)
          (λ last.
          let same : n ≡ text = (let place = last.0 in omega arith) in
          subst (λ o. IsNeed (UsesTag tree n) o) last.1 (subst (λ k. IsNeed (UsesTag tree k) need) (sym same) (is (subst (λ k. kind_at tree k ≡ kind.RoutineText) same form))))
          (get_pushed needs need other n at);
    })

-- ---- the needs by operators

-- what applies an operator is a node
operator_there : (tree : Built) (found : Finding) (at d : ℕ) → applied_operator found (kind_at tree at) ≡ Some d → at < length tree.nodes
operator_there tree found at d e = ⊎_elim (λ h. h) (λ h. absurd (skip (slice_get tree.nodes at) (past tree.nodes at h) e)) (below_or at (length tree.nodes))
  where
    skip : (o : Option Node) → o ≡ None → applied_operator found (option_map_or (λ (n : Node). n.kind) o kind.Skip) ≡ Some d → ⊥
    skip None e k = absurd (cc)
    skip (Some n) e k = absurd (cc)

module _ (a : Asked) where
  -- the operator that a node applies
  abbrev at_node : ℕ → Option ℕ
  at_node at = applied_operator (finding_at a.fs at) (kind_at a.tree at)

  before_more : (at text hops : ℕ) → TextUsesBefore a at text hops → TextUsesBefore a (at + 1) text hops
  before_more at text hops (by_tag u) = by_tag u
  before_more at text hops (by_operator k d low e u) = by_operator k d (omega arith) e u

  before_in : (at text hops : ℕ) → TextUsesBefore a (at + 1) text hops → TextUsesBefore a at text hops ⊎ ((d : ℕ) × (at_node at ≡ Some d) × UsesSlotAt a.tree at d text hops)
  before_in at text hops (by_tag u) = inl (by_tag u)
  before_in at text hops (by_operator k d low e u) =
      ⊎_elim
      (λ same. inr (d, subst (λ n. at_node n ≡ Some d) same.1 e, subst (λ n. UsesSlotAt a.tree n d text hops) same.1 u))
      (λ other. let differs = other.1 in inl (by_operator k d (omega arith) e u))
      (eqb_tells k at)

  pub needs_before : (needs : List (Option ℕ)) → AreNeeds a.tree (UsesTag a.tree) (length a.tree.nodes) needs → AreNeeds a.tree (TextUsesBefore a 0) (length a.tree.nodes) needs
  needs_before needs are = record {
    long = are.long;
    each = λ text need at form. same_need (UsesTag a.tree text) (TextUsesBefore a 0 text) need (λ n u. by_tag u) (none text) (are.each text need at form);
  }
    where
      none : (text hops : ℕ) → TextUsesBefore a 0 text hops → UsesTag a.tree text hops
      none text hops (by_tag u) = u
      none text hops (by_operator k d low e u) = absurd (omega arith)

  -- one node more
  pub needs_on : (at : ℕ) (found : Option ℕ) (old new : List (Option ℕ)) → at_node at ≡ found → AreLoweredBy a.tree at found old new
      → AreNeeds a.tree (TextUsesBefore a at) (length a.tree.nodes) old → AreNeeds a.tree (TextUsesBefore a (at + 1)) (length a.tree.nodes) new
  needs_on at None old new none same are = record {
    long = ap (λ (xs : List (Option ℕ)). length xs) same ∙ are.long;
    each = λ text need is form.
        same_need (TextUsesBefore a at text) (TextUsesBefore a (at + 1) text) need (before_more at text)
        (λ n u. ⊎_elim (λ o. o) (λ o. let some = o.1 in absurd (cc)) (before_in at text n u))
        (are.each text need (ap (λ xs. slice_get xs text) (sym same) ∙ is) form);
  }
  needs_on at (Some d) old new some lowered are = record {
    long = lowered.long ∙ are.long;
    each = λ text need is form.
        let mid : Option ℕ = slice_index_or old text None in
        let low = is_there new text need is in
        let long = lowered.long in
        let was : slice_get old text ≡ Some mid = read old text None (omega arith) in
        lower_need (TextUsesBefore a at text) (TextUsesSlotAt a.tree at d text) (TextUsesBefore a (at + 1) text) mid need
        (before_more at text)
        (λ n u. by_operator at d (omega arith) some u.1)
        (λ n u. ⊎_elim (λ o. inl o) (λ o. let one : o.0 ≡ d = one_definition (sym o.1 ∙ some) in inr (form, subst (λ k. UsesSlotAt a.tree at k text n) one o.2)) (before_in at text n u))
        (are.each text mid was form)
        (lowered.each text mid need was is);
  }
    where
      one_definition : {x y : ℕ} → Some x ≡ Some y → x ≡ y
      one_definition e = cc

  pub needs_all : (needs : List (Option ℕ)) → AreNeeds a.tree (TextUsesBefore a (length a.tree.nodes)) (length a.tree.nodes) needs
      → AreNeeds a.tree (UsesFrame a) (length a.tree.nodes) needs
  needs_all needs are = record {
    long = are.long;
    each = λ text need at form. same_need (TextUsesBefore a (length a.tree.nodes) text) (UsesFrame a text) need (to text) (from text) (are.each text need at form);
  }
    where
      to : (text hops : ℕ) → TextUsesBefore a (length a.tree.nodes) text hops → UsesFrame a text hops
      to text hops (by_tag u) = uses_by_tag u
      to text hops (by_operator k d low e u) = uses_by_operator k d e u

      from : (text hops : ℕ) → UsesFrame a text hops → TextUsesBefore a (length a.tree.nodes) text hops
      from text hops (uses_by_tag u) = by_tag u
      from text hops (uses_by_operator k d e u) = by_operator k d (operator_there a.tree (finding_at a.fs k) k d e) e u
