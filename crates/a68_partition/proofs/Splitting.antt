-- Splitting classes by a class.
use Rattle.std.proofs.Common.{◌≡◌, ◌≢◌, ◌<◌, ◌≤◌, ◌+◌, ◌⊎◌, ◌++◌, ℕ, suc, List, [], ◌∷◌, Bool, true, false, length, get_or, replicate, refl, sym, ap, ◌∙◌, arith, subst, inl, inr, ⊎_elim, below_more, length-append}
use Rattle.std.specs.Prelude.{◌↔◌}
use mathlib.Core.Bool.{beq, not}
use Rattle.std.specs.List.{All}
use Rattle.std.proofs.Math.ListN.{get_or-append}
use Rattle.std.proofs.Math.Seq.{get_or-append_seam}
use Rattle.std.proofs.lemmas.Bool.{cases_eq}
use Rattle.std.proofs.lemmas.List.{length-replicate, get_or-replicate}
use Rattle.std.proofs.lemmas.List.Elements.{All-from_get_or}
use Rattle.a68_partition.specs.Rows.{row_at, Stands, StandsIn}
use Rattle.a68_partition.specs.Rounds.{ByFirst, IsWired, IsCoarse, IsStart, IsLookedAt, Touches, SameTouch, SplitsBy, GoesTo}
use Rattle.a68_partition.proofs.Numbering.{OneKey}
use Rattle.a68_partition.proofs.Stable.{deeper, stands_below}

-- head and class as a key
abbrev pub PairKey : List ℕ → List ℕ → ℕ → List ℕ → Type 0
PairKey heads classes v key = key ≡ get_or heads v 0 ∷ get_or classes v 0 ∷ []

pub one_pair : (heads classes : List ℕ) → OneKey (PairKey heads classes)
one_pair heads classes m x y p q = p ∙ sym q

-- the first numbers of the same head and class are a start
pub starts : (heads : List ℕ) (rows : List (Bool × List ℕ)) (classes next : List ℕ) → length heads ≡ length rows → IsCoarse heads rows classes → ByFirst (length heads) (PairKey heads classes) next → IsStart heads rows next
starts heads rows classes next long coarse by = record {
  long = by.long ∙ long;
  low = λ v h. (by.first v (omega arith)).0;
  made = λ v w h g e.
      let p = (by.first v (omega arith)).1 in
      let q = (by.first w (omega arith)).1 in
      let p1 = p.1 in let p2 = p.2 in let q1 = q.1 in let q2 = q.2 in
      let same : (get_or heads (get_or next v 0) 0) ≡ (get_or heads (get_or next w 0) 0) = ap (λ (k : ℕ). get_or heads k 0) e in
      cc;
  coarse = (
    suc coarse.0,
    λ v w h g al.
        let f = coarse.1 v w h g (deeper heads rows coarse.0 v w al) in
        let e = al.0 in
        by.same v w (omega arith) (omega arith) (get_or heads v 0 ∷ get_or classes v 0 ∷ [], refl, cc),
  );
}

-- a split keeps equal unfoldings in one class
pub splits : (unions : Bool) (heads : List ℕ) (rows : List (Bool × List ℕ)) (classes : List ℕ) (by : ℕ) (next : List ℕ) → IsWired heads rows → IsCoarse heads rows classes → SplitsBy unions rows classes by next → IsCoarse heads rows next
splits unions heads rows classes by next wired coarse is = (
  suc coarse.0,
  λ v w h g al.
      is.same v w h g (coarse.1 v w h g (deeper heads rows coarse.0 v w al)) (
        λ place t. let k = al.1.0 place t.1.0 t.1.1 in (subst (IsLookedAt unions) (wired.kinds v w h g al.0) t.0, (k.0, k.1, sym (coarse.1 t.1.0 k.0 (there v place t.1.0 h t.1.1) (there w place k.0 g k.1) k.2) ∙ t.1.2)),
        λ place t. let k = al.1.1 place t.1.0 t.1.1 in (subst (IsLookedAt unions) (sym (wired.kinds v w h g al.0)) t.0, (k.0, k.1, coarse.1 k.0 t.1.0 (there v place k.0 h k.1) (there w place t.1.0 g t.1.1) k.2 ∙ t.1.2)),
      ),
)
  where
    there : (v place x : ℕ) → v < length rows → StandsIn rows v place x → x < length rows
    there v place x h st = stands_below (length rows) (row_at rows v).0 (row_at rows v).1 place x (wired.closed v h) st

-- a number stays in its class where it is touched as the first of the class is, or goes where all go that leave it
abbrev pub Placed : Bool → List (Bool × List ℕ) → List ℕ → ℕ → List ℕ → List ℕ → ℕ → Type 0
Placed unions rows classes by moved next j =
    (SameTouch unions classes by (row_at rows j) (row_at rows (get_or classes j 0)) × (get_or next j 0 ≡ get_or classes j 0))
    ⊎ ((SameTouch unions classes by (row_at rows j) (row_at rows (get_or classes j 0)) → ⊥) × (get_or next j 0 ≡ get_or moved (get_or classes j 0) 0) × (get_or moved (get_or classes j 0) 0 ≢ 4294967295))

pub record Halfway (unions : Bool) (rows : List (Bool × List ℕ)) (classes : List ℕ) (by : ℕ) (moved next : List ℕ) (v : ℕ) : Type 0 where
  pub long : length next ≡ v
  pub wide : length moved ≡ length rows
  pub placed : (j : ℕ) → j < v → Placed unions rows classes by moved next j
  pub targets : (c : ℕ) → c < length rows → get_or moved c 0 ≢ 4294967295 → get_or moved c 0 < length rows
  pub below : (j : ℕ) → j < v → get_or next j 0 < length rows

turned : (unions : Bool) (classes : List ℕ) (by : ℕ) (a b : Bool × List ℕ) → SameTouch unions classes by a b → SameTouch unions classes by b a
turned unions classes by a b h = (h.1, h.0)

joined : (unions : Bool) (classes : List ℕ) (by : ℕ) (a b c : Bool × List ℕ) → SameTouch unions classes by a b → SameTouch unions classes by b c → SameTouch unions classes by a c
joined unions classes by a b c h g = (λ p t. g.0 p (h.0 p t), λ p t. h.1 p (g.1 p t))

pub split_whole : (unions : Bool) (rows : List (Bool × List ℕ)) (classes : List ℕ) (by : ℕ) (moved next : List ℕ) (v : ℕ) → v ≡ length rows → Halfway unions rows classes by moved next v → SplitsBy unions rows classes by next
split_whole unions rows classes by moved next n e half = record {
  long = half.long ∙ e;
  same = λ v w h g same touch. go v w same touch (half.placed v (omega arith)) (half.placed w (omega arith));
}
  where
    go : (v w : ℕ) → get_or classes v 0 ≡ get_or classes w 0 → SameTouch unions classes by (row_at rows v) (row_at rows w) → Placed unions rows classes by moved next v → Placed unions rows classes by moved next w → get_or next v 0 ≡ get_or next w 0
    go v w same touch (inl p) (inl q) = p.1 ∙ same ∙ sym q.1
    go v w same touch (inr p) (inr q) = p.1 ∙ ap (λ (c : ℕ). get_or moved c 0) same ∙ sym q.1
    go v w same touch (inl p) (inr q) =
        absurd (q.0 (joined unions classes by (row_at rows w) (row_at rows v) (row_at rows (get_or classes w 0)) (turned unions classes by (row_at rows v) (row_at rows w) touch)
        (subst (λ (c : ℕ). SameTouch unions classes by (row_at rows v) (row_at rows c)) same p.0)))
    go v w same touch (inr p) (inl q) =
        absurd (p.0 (joined unions classes by (row_at rows v) (row_at rows w) (row_at rows (get_or classes v 0)) touch
        (subst (λ (c : ℕ). SameTouch unions classes by (row_at rows w) (row_at rows c)) (sym same) q.0)))

pub all_below : (unions : Bool) (rows : List (Bool × List ℕ)) (classes : List ℕ) (by : ℕ) (moved next : List ℕ) (v : ℕ) → Halfway unions rows classes by moved next v → All (λ c. c < length rows) next
all_below unions rows classes by moved next v half = All-from_get_or (λ c. c < length rows) next 0 (λ k h. let l = half.long in half.below k (omega arith))

module _ (unions : Bool) (rows : List (Bool × List ℕ)) (classes : List ℕ) (by : ℕ) (moved next : List ℕ) (v : ℕ) (half : Halfway unions rows classes by moved next v) where
  earlier : (t j : ℕ) → j < v → get_or (next ++ t ∷ []) j 0 ≡ get_or next j 0
  earlier t j h = let l = half.long in get_or-append next (t ∷ []) 0 j (omega arith)

  last : (t : ℕ) → get_or (next ++ t ∷ []) v 0 ≡ t
  last t = subst (λ (k : ℕ). get_or (next ++ t ∷ []) k 0 ≡ t) half.long (get_or-append_seam next t [] 0)

  -- it stays
  pub stayed : get_or classes v 0 < length rows → SameTouch unions classes by (row_at rows v) (row_at rows (get_or classes v 0)) → Halfway unions rows classes by moved (next ++ get_or classes v 0 ∷ []) (v + 1)
  stayed lt touch = record {
    long = let l = half.long in omega (arith, length-append next (get_or classes v 0 ∷ []));
    wide = half.wide;
    placed = below_more _ _ (λ j h. rw (earlier (get_or classes v 0) j h) (half.placed j h)) (inl (touch, last (get_or classes v 0)));
    targets = half.targets;
    below = below_more _ _ (λ j h. rw (earlier (get_or classes v 0) j h) (half.below j h)) (rw (last (get_or classes v 0)) lt);
  }

  -- it goes
  pub left : (after : List ℕ) (t : ℕ) → v < length rows → get_or classes v 0 < length rows → GoesTo moved after (get_or classes v 0) v t → (SameTouch unions classes by (row_at rows v) (row_at rows (get_or classes v 0)) → ⊥) → Halfway unions rows classes by after (next ++ t ∷ []) (v + 1)
  left after t lt lt' goes apart = record {
    long = let l = half.long in omega (arith, length-append next (t ∷ []));
    wide = goes.long ∙ half.wide;
    placed = below_more _ _ (λ j h. rw (earlier t j h) (old j (half.placed j h))) (inr (apart, last t ∙ sym goes.here, rw goes.here goes.one.0));
    targets = λ c h ne. aim c h ne (cases_eq c (get_or classes v 0));
    below = below_more _ _ (λ j h. rw (earlier t j h) (half.below j h)) (rw (last t) target);
  }
    where
      old : (j : ℕ) → Placed unions rows classes by moved next j → Placed unions rows classes by after next j
      old j (inl p) = inl p
      old j (inr p) = let k = goes.kept (get_or classes j 0) p.2 in inr (p.0, p.1 ∙ sym k, rw k p.2)

      target : t < length rows
      target = ⊎_elim (λ e. omega arith) (λ e. let ne : get_or moved (get_or classes v 0) 0 ≢ 4294967295 = (λ f. goes.one.0 (e ∙ f)) in let b = half.targets (get_or classes v 0) lt' ne in omega arith) goes.one.1

      aim : (c : ℕ) → c < length rows → get_or after c 0 ≢ 4294967295 → (c ≡ get_or classes v 0) ⊎ (c ≡ get_or classes v 0 → ⊥) → get_or after c 0 < length rows
      aim c h ne (inl e) = rw (e, goes.here) target
      aim c h ne (inr d) = let k = goes.others c d in rw k (half.targets c h (λ f. ne (k ∙ f)))

pub begun : (unions : Bool) (rows : List (Bool × List ℕ)) (classes : List ℕ) (by : ℕ) (moved next : List ℕ) → moved ≡ replicate (length rows) 4294967295 → next ≡ [] → Halfway unions rows classes by moved next 0
begun unions rows classes by moved next m e = record {
  long = ap length e;
  wide = ap length m ∙ length-replicate (length rows) 4294967295;
  placed = λ j h. absurd (omega arith);
  targets = λ c h ne. absurd (ne (ap (λ (xs : List ℕ). get_or xs c 0) m ∙ get_or-replicate (length rows) c 4294967295 0 h));
  below = λ j h. absurd (omega arith);
}

-- rows that are touched alike up to where both end are touched alike
pub whole_touch : (unions : Bool) (classes : List ℕ) (by : ℕ) (a b : Bool × List ℕ) (m n end : ℕ)
    → ((place x : ℕ) → Stands a.0 a.1 place x → place < m) → ((place x : ℕ) → Stands b.0 b.1 place x → place < n) → m ≤ end → n ≤ end
    → ((p : ℕ) → p < end → Touches unions classes by a p ↔ Touches unions classes by b p) → SameTouch unions classes by a b
whole_touch unions classes by a b m n end f g h k all =
    (λ p t. let lt = f p t.1.0 t.1.1 in (all p (omega arith)).0 t, λ p t. let lt = g p t.1.0 t.1.1 in (all p (omega arith)).1 t)

equal_bools : (x y : Bool) → not (beq x y) ≡ false → x ≡ y
equal_bools true true e = refl
equal_bools false false e = refl
equal_bools true false e = absurd (cc)
equal_bools false true e = absurd (cc)

pub same_answer : (A B : Type 0) (x y : Bool) → (x ≡ true) ↔ A → (y ≡ true) ↔ B → not (beq x y) ≡ false → A ↔ B
same_answer A B x y f g n = let e = equal_bools x y n in (λ a. g.0 (sym e ∙ f.1 a), λ b. f.0 (e ∙ g.1 b))

pub other_answer : (A B : Type 0) (x y : Bool) → (x ≡ true) ↔ A → (y ≡ true) ↔ B → not (beq x y) ≡ true → (A → B) → (B → A) → ⊥
other_answer A B true true f g n h k = cc
other_answer A B false false f g n h k = cc
other_answer A B true false f g n h k = let e = g.1 (h (f.0 refl)) in cc
other_answer A B false true f g n h k = let e = f.1 (k (g.0 refl)) in cc
