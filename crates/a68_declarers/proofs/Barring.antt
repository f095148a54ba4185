-- What may not stand within the bounds of a mode definition, from the last node to the first.
use Rattle.std.proofs.Common.{◌≡◌, ◌<◌, ◌≤◌, ◌+◌, ◌⊎◌, ℕ, List, [], ◌∷◌, Bool, true, false, length, get_or, set, refl, sym, ap, ◌∙◌, arith, subst, inl, inr, ⊎_elim, Some, slice_get, get_or-set_same, get_or-set_other, length-set}
use Rattle.std.specs.Prelude.{◌↔◌, ◌&&◌}
use Rattle.std.specs.List.{Contains}
use Rattle.std.proofs.lemmas.Bool.{cases_eq, false≢true}
use Rattle.a68_declarers.specs.declared.actual.Holders.TheVariants as holders
use Rattle.a68_declarers.specs.Actual.{IsActual}
use Rattle.a68_declarers.specs.Bounds.{IsBarred, HoldsBarred, HasWrongBound, HasWrongBounds, lacks, has, barred, AreBarred, is_bound, is_wrong, barred_by, a_routine, a_parallel, an_actual_word}
use Rattle.a68_declarers.specs.Declarers.{form_at, is_declarer, is_word, IsDeclarerAt, PartsFollow}
use Rattle.a68_declarers.proofs.There.{at_place, placed, kind_past}
use Rattle.a68_ranges.proofs.Taking.{below_or}
use Rattle.a68_ranges.specs.Nodes.{kind_at, parts_at, IsPart, StandsWithin, itself, part}
use Rattle.a68_tree.specs.Trees.{Built}
use Rattle.a68_tree.specs.declared.kind.NodeKind.{NodeKind}
use Rattle.a68_tree.specs.declared.kind.NodeKind.TheVariants as kind

module _ (tree : Built) where
  below : (a n d : ℕ) → IsPart tree a n → StandsWithin tree n d → StandsWithin tree a d
  below a n d p itself = part itself p
  below a n d p (part w q) = part (below a n _ p w) q

  down : (a d : ℕ) → StandsWithin tree a d → (a ≡ d) ⊎ ((n : ℕ) × IsPart tree a n × StandsWithin tree n d)
  down a d itself = inl refl
  down a d (part {n = m} w q) = ⊎_elim
      (λ e. inr (d, subst (λ x. IsPart tree x d) (sym e) q, itself))
      (λ s. inr (s.0, s.1, part s.2 q))
      (down a m w)

  -- a node holds what is barred where it is so itself or a part does
  pub holds_own : (a : ℕ) → IsBarred tree a → HoldsBarred tree a
  holds_own a is = record { barred = a; within = itself; is = is }

  pub holds_part : (a n : ℕ) → IsPart tree a n → HoldsBarred tree n → HoldsBarred tree a
  holds_part a n p h = record { barred = h.barred; within = below a n h.barred p h.within; is = h.is }

  pub holds_by : (a : ℕ) → HoldsBarred tree a → IsBarred tree a ⊎ ((n : ℕ) × IsPart tree a n × HoldsBarred tree n)
  holds_by a h = ⊎_elim (λ e. inl (subst (IsBarred tree) (sym e) h.is)) (λ s. inr (s.0, s.1, record { barred = h.barred; within = s.2; is = h.is })) (down a h.barred h.within)

  -- by the marks of the nodes behind it
  pub holds_marked : (follow : PartsFollow tree) (a : ℕ) (marks : List Bool) → a < length tree.nodes → AreBarred tree (a + 1) marks → (IsBarred tree a → ⊥)
      → ((p : ℕ) × Contains (parts_at tree a) p × (get_or marks p false ≡ true)) ↔ HoldsBarred tree a
  holds_marked follow a marks lt so never = (
    λ s. let at = placed (parts_at tree a) s.0 s.1 in holds_part a s.0 (at.0, (lt, at.1)) ((so.exact s.0).0 s.2).1,
    λ h. ⊎_elim (λ is. absurd (never is)) (λ s.
        let f = (follow a s.0 s.1).0 in
        (s.0, at_place (parts_at tree a) s.1.0 s.0 s.1.1.1, (so.exact s.0).1 (omega arith, s.2))) (holds_by a h),
  )

  pub begun : (marks : List Bool) → length marks ≡ length tree.nodes → ((d : ℕ) → get_or marks d false ≡ false) → ((x : ℕ) → length tree.nodes ≤ x → HoldsBarred tree x → ⊥)
      → AreBarred tree (length tree.nodes) marks
  begun marks long none never = record {
    long = long;
    exact = λ x. (λ h. let f = none x in absurd (cc), λ h. absurd (never x h.0 h.1));
  }

  pub marked : (a : ℕ) (marks : List Bool) → a < length tree.nodes → HoldsBarred tree a → AreBarred tree (a + 1) marks → AreBarred tree a (set marks a true)
  marked a marks lt holds so = record {
    long = length-set marks a true ∙ so.long;
    exact = λ x. go x (cases_eq x a);
  }
    where
      go : (x : ℕ) → (x ≡ a) ⊎ (x ≡ a → ⊥) → (get_or (set marks a true) x false ≡ true) ↔ ((a ≤ x) × HoldsBarred tree x)
      go x (inl e) = (
        λ h. (omega arith, subst (HoldsBarred tree) (sym e) holds),
        λ h. subst (λ y. get_or (set marks a true) y false ≡ true) (sym e) (get_or-set_same marks a true false (let l = so.long in omega arith)),
      )
      go x (inr ne) = (
        λ h. let r = (so.exact x).0 (rw get_or-set_other at h) in let l = r.0 in (omega arith, r.1),
        λ h. let l = h.0 in let r : get_or marks x false ≡ true = (so.exact x).1 (omega arith, h.1) in rw get_or-set_other r,
      )

  pub unmarked : (a : ℕ) (marks : List Bool) → (HoldsBarred tree a → ⊥) → AreBarred tree (a + 1) marks → AreBarred tree a marks
  unmarked a marks never so = record {
    long = so.long;
    exact = λ x. (
      λ h. let r = (so.exact x).0 h in let l = r.0 in (omega arith, r.1),
      λ h. go x (cases_eq x a) h,
    );
  }
    where
      go : (x : ℕ) → (x ≡ a) ⊎ (x ≡ a → ⊥) → (a ≤ x) × HoldsBarred tree x → get_or marks x false ≡ true
      go x (inl e) h = absurd (never (subst (HoldsBarred tree) e h.1))
      go x (inr ne) h = let l = h.0 in (so.exact x).1 (omega arith, h.1)

  -- ---- one node

  pub barred_is : (x : ℕ) (a w : Bool) → (a ≡ true) ↔ IsActual tree holders.All x → w ≡ is_word (form_at tree x) → (barred_by (kind_at tree x) (a && w) ≡ true) ↔ IsBarred tree x
  barred_is x a w ia iw = (to (kind_at tree x) refl, from)
    where
      both_of : (a w : Bool) → (a && w) ≡ true → (a ≡ true) × (w ≡ true)
      both_of true w e = (refl, e)
      both_of false w e = absurd (cc)

      to : (k : NodeKind) → kind_at tree x ≡ k → barred_by k (a && w) ≡ true → IsBarred tree x
      to kind.RoutineText e t = a_routine e
      to kind.Parallel e t = a_parallel e
      to kind.Declarer e t = let b = both_of a w t in an_actual_word (ap is_declarer e) (sym iw ∙ b.1) (ia.0 b.0)
      to _ e t = absurd (false≢true t)

      of_declarer : (k : NodeKind) → is_declarer k ≡ true → barred_by k (a && w) ≡ (a && w)
      of_declarer kind.Declarer e = refl
      of_declarer _ e = absurd (false≢true e)

      from : IsBarred tree x → barred_by (kind_at tree x) (a && w) ≡ true
      from (a_routine e) = ap (λ k. barred_by k (a && w)) e
      from (a_parallel e) = ap (λ k. barred_by k (a && w)) e
      from (an_actual_word d s is) = of_declarer (kind_at tree x) d ∙ ap (λ b. b && w) (ia.1 is) ∙ iw ∙ s

  barred_there : (x : ℕ) → IsBarred tree x → x < length tree.nodes
  barred_there x is = ⊎_elim (λ h. h) (λ h. absurd (no' (kind_past tree x h) is)) (below_or x (length tree.nodes))
    where
      no' : kind_at tree x ≡ kind.Skip → IsBarred tree x → ⊥
      no' e (a_routine f) = let g = sym e ∙ f in cc
      no' e (a_parallel f) = let g = sym e ∙ f in cc
      no' e (an_actual_word d s is) = false≢true (sym (ap is_declarer e) ∙ d)

  pub holds_there : (x : ℕ) → HoldsBarred tree x → x < length tree.nodes
  holds_there x h = ⊎_elim (λ is. barred_there x is) (λ s. s.1.1.0) (holds_by x h)

  -- ---- one bound

  pub wrong_is : (d b : ℕ) (a m h : Bool) → (a ≡ true) ↔ IsActual tree holders.All d → (m ≡ true) ↔ IsActual tree holders.ModeDefinitions d → (h ≡ true) ↔ HoldsBarred tree b
      → (is_wrong a m h (parts_at tree b) ≡ true) ↔ HasWrongBound tree d b
  wrong_is d b a m h ia im ih = (to a m h (parts_at tree b) refl ia im ih, from a m h (parts_at tree b) refl ia im ih)
    where
      to : (a m h : Bool) (ps : List ℕ) → parts_at tree b ≡ ps → (a ≡ true) ↔ IsActual tree holders.All d → (m ≡ true) ↔ IsActual tree holders.ModeDefinitions d → (h ≡ true) ↔ HoldsBarred tree b
          → is_wrong a m h ps ≡ true → HasWrongBound tree d b
      to true m h [] e ia im ih w = lacks (ia.0 refl) e
      to true true true (p ∷ ps) e ia im ih w = barred (im.0 refl) (ih.0 refl)
      to true true false (p ∷ ps) e ia im ih w = absurd (cc)
      to true false h (p ∷ ps) e ia im ih w = absurd (cc)
      to false true true [] e ia im ih w = barred (im.0 refl) (ih.0 refl)
      to false true false [] e ia im ih w = absurd (cc)
      to false false h [] e ia im ih w = absurd (cc)
      to false m h (p ∷ ps) e ia im ih w = has (λ is. false≢true (ia.1 is)) (λ n. let f = sym e ∙ n in absurd (cc))

      both : (m h : Bool) → m ≡ true → h ≡ true → (m && h) ≡ true
      both true h e f = f
      both false h e f = absurd (cc)

      from : (a m h : Bool) (ps : List ℕ) → parts_at tree b ≡ ps → (a ≡ true) ↔ IsActual tree holders.All d → (m ≡ true) ↔ IsActual tree holders.ModeDefinitions d → (h ≡ true) ↔ HoldsBarred tree b
          → HasWrongBound tree d b → is_wrong a m h ps ≡ true
      from true m h [] e ia im ih w = refl
      from true m h (p ∷ ps) e ia im ih (lacks is none) = let f = sym e ∙ none in absurd (cc)
      from true m h (p ∷ ps) e ia im ih (has never some) = absurd (never (ia.0 refl))
      from true m h (p ∷ ps) e ia im ih (barred is holds) = both m h (im.1 is) (ih.1 holds)
      from false m h [] e ia im ih (lacks is none) = absurd (false≢true (ia.1 is))
      from false m h [] e ia im ih (has never some) = absurd (some e)
      from false m h [] e ia im ih (barred is holds) = both m h (im.1 is) (ih.1 holds)
      from false m h (p ∷ ps) e ia im ih w = refl

  -- what the marks tell of a declarer
  pub part_is : (d : ℕ) (parts : List ℕ) (k p : ℕ) → d < length tree.nodes → parts_at tree d ≡ parts → slice_get parts k ≡ Some p → IsPart tree d p
  part_is d parts k p lt is at = (k, (lt, ap (λ (xs : List ℕ). slice_get xs k) is ∙ at))

  pub wrong_part : (d b k : ℕ) (parts : List ℕ) (a m h bound : Bool) → d < length tree.nodes → IsDeclarerAt tree d → parts_at tree d ≡ parts → slice_get parts k ≡ Some b
      → (a ≡ true) ↔ IsActual tree holders.All d → (m ≡ true) ↔ IsActual tree holders.ModeDefinitions d → (h ≡ true) ↔ HoldsBarred tree b → (is_bound (kind_at tree b) && is_wrong a m h (parts_at tree b)) ≡ true
      → HasWrongBounds tree d
  wrong_part d b k parts a m h bound lt dec is at ia im ih w = go (is_bound (kind_at tree b)) refl w
    where
      go : (t : Bool) → is_bound (kind_at tree b) ≡ t → (t && is_wrong a m h (parts_at tree b)) ≡ true → HasWrongBounds tree d
      go true e w = record { declarer = dec; bound = b; of = (part_is d parts k b lt is at, e); wrong = (wrong_is d b a m h ia im ih).0 w }
      go false e w = absurd (false≢true w)

  pub right_part : (d b : ℕ) (a m h : Bool) → (a ≡ true) ↔ IsActual tree holders.All d → (m ≡ true) ↔ IsActual tree holders.ModeDefinitions d → (h ≡ true) ↔ HoldsBarred tree b
      → (is_bound (kind_at tree b) && is_wrong a m h (parts_at tree b)) ≡ false → is_bound (kind_at tree b) ≡ true → HasWrongBound tree d b → ⊥
  right_part d b a m h ia im ih none is wrong =
      false≢true (sym none ∙ ap (λ t. t && is_wrong a m h (parts_at tree b)) is ∙ (wrong_is d b a m h ia im ih).1 wrong)

  -- by the tables
  pub held_is : (marks : List Bool) → AreBarred tree 0 marks → (b : ℕ) → (get_or marks b false ≡ true) ↔ HoldsBarred tree b
  held_is marks are b = (λ e. ((are.exact b).0 e).1, λ h. (are.exact b).1 (omega arith, h))

-- what is read of a table tells what the table tells
pub read_tells : (marks now : List Bool) (d : ℕ) (b : Bool) (P : Type 0) → b ≡ get_or now d false → now ≡ marks → (get_or marks d false ≡ true) ↔ P → (b ≡ true) ↔ P
read_tells marks now d b P e f tells = rw (e, f) tells
