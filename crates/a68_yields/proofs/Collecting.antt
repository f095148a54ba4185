-- Collecting the units that a node may yield.
use Rattle.std.proofs.Common.{◌≡◌, ◌<◌, ◌≤◌, ◌+◌, ◌++◌, ◌∷◌, [], ℕ, zero, suc, List, Bool, true, false, if◌then◌else◌, length, take, replicate, refl, sym, ap, arith, subst, append_assoc, append-nil}
use Rattle.std.proofs.lemmas.Bool.{false≢true}
use Rattle.std.proofs.lemmas.List.Elements.{All-append, All-cons, All-nil}
use Rattle.std.specs.List.{All}
use Rattle.std.specs.Prelude.{slice_index_or}
use Rattle.a68_coerce.specs.Below.{IsLeafBelow}
use Rattle.a68_coerce.specs.declared.leaf.Leaf.{Leaf}
use Rattle.a68_coerce.specs.declared.leaf.Leaf.TheVariants as leaf
use Rattle.a68_ranges.specs.Nodes.{kind_at, parts_at}
use Rattle.a68_tree.specs.Trees.{AllBetween, Built}
use Rattle.a68_yields.specs.Below.{AreCollected, AreUnitsBelow, IsCollected}
use Rattle.a68_yields.specs.Leaves.{AllHaveLeaves, HasLeaves, HasNoLeaves, and_more, behind_first, choices, chosen, endings, ends, is_serial, is_spec, unspecified, handed, is_open, left_out, no_more, one, several, yield_at}
use Rattle.a68_yields.specs.declared.yielding.Yielding.{Yielding}
use Rattle.a68_yields.specs.declared.yielding.Yielding.TheVariants as yields

module _ (tree : Built) (ys : List Yielding) where
  -- ---- lists of nodes

  pub all_append : (xs zs : List ℕ) (a b : List Leaf) → AllHaveLeaves tree ys xs a → AllHaveLeaves tree ys zs b → AllHaveLeaves tree ys (xs ++ zs) (a ++ b)
  all_append [] zs a b (no_more none) more = rw none more
  all_append (x ∷ xs) zs a b (and_more those others here rest is) more =
      and_more those (others ++ b) here (all_append xs zs others b rest more) (rw (is, append_assoc) refl)

  pub all_of : (xs : List ℕ) (k : ℕ) (a : List Leaf) → k < length xs → AllHaveLeaves tree ys xs a → (ls : List Leaf) × HasLeaves tree ys (slice_index_or xs k 0) ls
  all_of [] k a h all = absurd (omega arith)
  all_of (x ∷ xs) zero a h (and_more those others here rest is) = (those, here)
  all_of (x ∷ xs) (suc k) a h (and_more those others here rest is) = all_of xs k others (omega arith) rest

  pub only_one : (x : ℕ) (a : List Leaf) → HasLeaves tree ys x a → AllHaveLeaves tree ys (x ∷ []) a
  only_one x a has = and_more a [] has (no_more refl) (sym (append-nil a))

  -- ---- what a node of each yield has

  pub none_unknown : (n : ℕ) → yield_at ys n ≡ yields.Unknown → HasNoLeaves tree ys n
  none_unknown n e ls (one l is leaves) = absurd (cc)
  none_unknown n e ls (handed p is has) = absurd (cc)
  none_unknown n e ls (several those is all leaves) = absurd (cc)

  pub handed_only : (n p : ℕ) (ls : List Leaf) → yield_at ys n ≡ yields.Part p → HasLeaves tree ys n ls → HasLeaves tree ys p ls
  handed_only n p ls e (one l is leaves) = absurd (cc)
  handed_only n p ls e (handed q is has) = let same : q ≡ p = cc in subst (λ (k : ℕ). HasLeaves tree ys k ls) same has
  handed_only n p ls e (several those is all leaves) = absurd (cc)

  pub several_only : (n : ℕ) (ls : List Leaf) → yield_at ys n ≡ yields.Choice → HasLeaves tree ys n ls → (those : List Leaf) × AllHaveLeaves tree ys (chosen tree n) those
  several_only n ls e (one l is leaves) = absurd (cc)
  several_only n ls e (handed q is has) = absurd (cc)
  several_only n ls e (several those is all leaves) = (those, all)

  -- ---- from a node down its last parts: what was taken, and so many skips that stand behind

  pub record Down (node at due : ℕ) (old now : List Leaf) : Type 0 where
    pub from : node ≤ at
    pub there : at < length tree.nodes
    pub few : due ≤ at
    pub taken : List Leaf
    pub now_is : now ≡ old ++ taken
    pub whole : (ls : List Leaf) → HasLeaves tree ys at ls → HasLeaves tree ys node (taken ++ (ls ++ replicate due leaf.StrongOnly))
    pub only : (ls : List Leaf) → HasLeaves tree ys node ls → (rest : List Leaf) × HasLeaves tree ys at rest

  pub begun : (node : ℕ) (old : List Leaf) → node < length tree.nodes → Down node node 0 old old
  begun node old there = record {
    from = omega arith;
    there = there;
    few = omega arith;
    taken = [];
    now_is = sym (append-nil old);
    whole = λ ls has. rw (append-nil ls) has;
    only = λ ls has. (ls, has);
  }

  pub to_part : (node at due p : ℕ) (old now : List Leaf) → yield_at ys at ≡ yields.Part p → at < p → p < length tree.nodes → Down node at due old now → Down node p due old now
  to_part node at due p old now e ahead there d = record {
    from = omega (arith, d.from);
    there = there;
    few = omega (arith, d.few);
    taken = d.taken;
    now_is = d.now_is;
    whole = λ ls has. d.whole ls (handed p e has);
    only = λ ls has. let r : (rest : List Leaf) × HasLeaves tree ys at rest = d.only ls has in (r.0, handed_only at p r.0 e r.1);
  }

  skips_more : (n m k : ℕ) → n + m ≡ k → replicate n leaf.StrongOnly ++ replicate m leaf.StrongOnly ≡ replicate k leaf.StrongOnly
  skips_more zero m k e = let same : m ≡ k = omega (arith, e) in ap (λ (i : ℕ). replicate i leaf.StrongOnly) same
  skips_more (suc n) m zero e = absurd (omega (arith, e))
  skips_more (suc n) m (suc k) e = let less : n + m ≡ k = omega (arith, e) in ap (λ (xs : List Leaf). leaf.StrongOnly ∷ xs) (skips_more n m k less)

  pub to_last : (node at due skips last : ℕ) (front : List ℕ) (old now new those : List Leaf) → yield_at ys at ≡ yields.Choice → chosen tree at ≡ front ++ last ∷ []
      → replicate skips leaf.StrongOnly ≡ left_out (is_open tree (kind_at tree at) (parts_at tree at)) → skips ≤ 1 → at < last → last < length tree.nodes
      → AllHaveLeaves tree ys front those → new ≡ now ++ those → Down node at due old now → Down node last (due + skips) old new
  to_last node at due skips last front old now new those e parts stand few ahead there all grown d = record {
    from = omega (arith, d.from);
    there = there;
    few = omega (arith, d.few);
    taken = d.taken ++ those;
    now_is = rw (grown, d.now_is, append_assoc) refl;
    whole = λ ls has.
        let here : HasLeaves tree ys at ((those ++ ls) ++ replicate skips leaf.StrongOnly) =
        several (those ++ ls) e (rw parts (all_append front (last ∷ []) those ls all (only_one last ls has))) (ap (λ (xs : List Leaf). (those ++ ls) ++ xs) stand) in
        subst (HasLeaves tree ys node) (joined d.taken those ls due skips) (d.whole ((those ++ ls) ++ replicate skips leaf.StrongOnly) here);
    only = λ ls has.
        let r : (rest : List Leaf) × HasLeaves tree ys at rest = d.only ls has in
        let c : (found : List Leaf) × AllHaveLeaves tree ys (chosen tree at) found = several_only at r.0 e r.1 in
        let every : AllHaveLeaves tree ys (front ++ last ∷ []) c.0 = rw (sym parts) c.1 in
        last_has front last c.0 every;
  }
    where
      joined : (taken those ls : List Leaf) (due skips : ℕ) → taken ++ (((those ++ ls) ++ replicate skips leaf.StrongOnly) ++ replicate due leaf.StrongOnly)
          ≡ (taken ++ those) ++ (ls ++ replicate (due + skips) leaf.StrongOnly)
      joined taken those ls due skips = let sum : skips + due ≡ due + skips = omega arith in rw (← skips_more skips due (due + skips) sum) (simp append_assoc refl)

      last_has : (front : List ℕ) (last : ℕ) (found : List Leaf) → AllHaveLeaves tree ys (front ++ last ∷ []) found → (rest : List Leaf) × HasLeaves tree ys last rest
      last_has [] last found (and_more those others here rest is) = (those, here)
      last_has (x ∷ xs) last found (and_more those others here rest is) = last_has xs last others rest

  -- ---- through a list of nodes

  pub record Through (nodes : List ℕ) (i : ℕ) (old now : List Leaf) : Type 0 where
    pub taken : List Leaf
    pub now_is : now ≡ old ++ taken
    pub all : AllHaveLeaves tree ys (take i nodes) taken

  pub through_one : (nodes : List ℕ) (i x : ℕ) (old now new those : List Leaf) → take (i + 1) nodes ≡ take i nodes ++ x ∷ [] → HasLeaves tree ys x those → new ≡ now ++ those
      → Through nodes i old now → Through nodes (i + 1) old new
  through_one nodes i x old now new those next has grown t = record {
    taken = t.taken ++ those;
    now_is = rw (grown, t.now_is, append_assoc) refl;
    all = rw next (all_append (take i nodes) (x ∷ []) t.taken those t.all (only_one x those has));
  }

  -- ---- what a call tells by its answer

  pub all_true : (ns : List ℕ) (old new : List Leaf) (known : Bool) → AreCollected tree ys ns old new known → known ≡ true → (leaves : List Leaf) × AllHaveLeaves tree ys ns leaves × (new ≡ old ++ leaves)
  all_true ns old new true is e = is
  all_true ns old new false is e = absurd (false≢true e)

  pub all_false : (ns : List ℕ) (old new : List Leaf) (known : Bool) → AreCollected tree ys ns old new known → known ≡ false → (leaves : List Leaf) → AllHaveLeaves tree ys ns leaves → ⊥
  all_false ns old new true is e = absurd (false≢true (sym e))
  all_false ns old new false is e = is

  pub one_true : (n : ℕ) (old new : List Leaf) (known : Bool) → IsCollected tree ys n old new known → known ≡ true → (leaves : List Leaf) × HasLeaves tree ys n leaves × (new ≡ old ++ leaves)
  one_true n old new true is e = is
  one_true n old new false is e = absurd (false≢true e)

  pub one_false : (n : ℕ) (old new : List Leaf) (known : Bool) → IsCollected tree ys n old new known → known ≡ false → HasNoLeaves tree ys n
  one_false n old new true is e = absurd (false≢true (sym e))
  one_false n old new false is e = is

  -- ---- the ends

  pub unit_taken : (node at due : ℕ) (old now new : List Leaf) (l : Leaf) → yield_at ys at ≡ yields.Unit l → new ≡ (now ++ l ∷ []) ++ replicate due leaf.StrongOnly
      → Down node at due old now → IsCollected tree ys node old new true
  unit_taken node at due old now new l e grown d =
      (d.taken ++ (l ∷ [] ++ replicate due leaf.StrongOnly), d.whole (l ∷ []) (one l e refl), rw (grown, d.now_is) (simp append_assoc refl))

  pub skips_taken : (node at due skips : ℕ) (old now new : List Leaf) → yield_at ys at ≡ yields.Choice → chosen tree at ≡ []
      → replicate skips leaf.StrongOnly ≡ left_out (is_open tree (kind_at tree at) (parts_at tree at)) → new ≡ now ++ replicate (due + skips) leaf.StrongOnly
      → Down node at due old now → IsCollected tree ys node old new true
  skips_taken node at due skips old now new e none stand grown d =
      let has : HasLeaves tree ys at (replicate skips leaf.StrongOnly) = several [] e (rw none (no_more refl)) stand in
      let sum : skips + due ≡ due + skips = omega arith in (
        d.taken ++ (replicate skips leaf.StrongOnly ++ replicate due leaf.StrongOnly),
        d.whole (replicate skips leaf.StrongOnly) has,
        rw (grown, d.now_is, skips_more skips due (due + skips) sum) (simp append_assoc refl),
      )

  pub unknown_has_none : (node at due : ℕ) (old now : List Leaf) → yield_at ys at ≡ yields.Unknown → Down node at due old now → HasNoLeaves tree ys node
  unknown_has_none node at due old now e d ls has = let r : (rest : List Leaf) × HasLeaves tree ys at rest = d.only ls has in none_unknown at e r.0 r.1

  pub front_has_none : (node at due last : ℕ) (front : List ℕ) (old now : List Leaf) → yield_at ys at ≡ yields.Choice → chosen tree at ≡ front ++ last ∷ []
      → ((found : List Leaf) → AllHaveLeaves tree ys front found → ⊥) → Down node at due old now → HasNoLeaves tree ys node
  front_has_none node at due last front old now e parts none d ls has =
      let r : (rest : List Leaf) × HasLeaves tree ys at rest = d.only ls has in
      let c : (found : List Leaf) × AllHaveLeaves tree ys (chosen tree at) found = several_only at r.0 e r.1 in
      let every : AllHaveLeaves tree ys (front ++ last ∷ []) c.0 = rw (sym parts) c.1 in
      let some : (found : List Leaf) × AllHaveLeaves tree ys front found = front_has front last c.0 every in
      none some.0 some.1
    where
      front_has : (front : List ℕ) (last : ℕ) (found : List Leaf) → AllHaveLeaves tree ys (front ++ last ∷ []) found → (some : List Leaf) × AllHaveLeaves tree ys front some
      front_has [] last found all = ([], no_more refl)
      front_has (x ∷ xs) last found (and_more those others here rest is) = let r : (some : List Leaf) × AllHaveLeaves tree ys xs some = front_has xs last others rest in (those ++ r.0, and_more those r.0 here r.1 refl)

-- ---- parts that stand between

pub between_front : (i n : ℕ) (xs : List ℕ) (y : ℕ) → AllBetween i n (xs ++ y ∷ []) → AllBetween i n xs × (i < y) × (y < n)
between_front i n [] y b = (tt, b.0, b.1)
between_front i n (x ∷ xs) y b = let r : AllBetween i n xs × (i < y) × (y < n) = between_front i n xs y b.2 in ((b.0, b.1, r.0), r.1, r.2)

pub between_at : (i n : ℕ) (xs : List ℕ) (k : ℕ) → AllBetween i n xs → k < length xs → (i < slice_index_or xs k 0) × (slice_index_or xs k 0 < n)
between_at i n [] k b h = absurd (omega arith)
between_at i n (x ∷ xs) zero b h = (b.0, b.1)
between_at i n (x ∷ xs) (suc k) b h = between_at i n xs k b.2 (omega arith)

pub between_unspecified : (tree : Built) (i n : ℕ) (parts : List ℕ) → AllBetween i n parts → AllBetween i n (unspecified tree parts)
between_unspecified tree i n [] b = tt
between_unspecified tree i n (p ∷ ps) b = by (is_spec (kind_at tree p)) (between_unspecified tree i n ps b.2)
  where
    by : (is : Bool) → AllBetween i n (unspecified tree ps) → AllBetween i n (if is then unspecified tree ps else p ∷ unspecified tree ps)
    by true rest = rest
    by false rest = (b.0, b.1, rest)

pub between_endings : (tree : Built) (i n : ℕ) (parts : List ℕ) → AllBetween i n parts → AllBetween i n (endings tree parts)
between_endings tree i n [] b = tt
between_endings tree i n (p ∷ ps) b = by (ends tree ps) (between_endings tree i n ps b.2)
  where
    by : (is : Bool) → AllBetween i n (endings tree ps) → AllBetween i n (if is then p ∷ endings tree ps else endings tree ps)
    by true more = (b.0, b.1, more)
    by false more = more

pub between_behind : (i n : ℕ) (parts : List ℕ) → AllBetween i n parts → AllBetween i n (behind_first parts)
between_behind i n [] b = tt
between_behind i n (p ∷ ps) b = b.2

-- what a node chooses among
pub between_chosen : (tree : Built) (n end : ℕ) → AllBetween n end (parts_at tree n) → AllBetween n end (chosen tree n)
between_chosen tree n end b = by (is_serial (kind_at tree n))
  where
    by : (is : Bool) → AllBetween n end (if is then endings tree (parts_at tree n) else choices tree (parts_at tree n))
    by true = between_endings tree n end (parts_at tree n) b
    by false = between_unspecified tree n end (behind_first (parts_at tree n)) (between_behind n end (parts_at tree n) b)

pub no_items : (xs : List ℕ) → length xs ≡ 0 → xs ≡ []
no_items [] e = refl
no_items (x ∷ xs) e = absurd (omega (arith, e))

-- ---- the modes of leaves

module _ (tree : Built) (ys : List Yielding) (n : ℕ) (below : AreUnitsBelow n ys) where
  skip_below : (is : Bool) → All (IsLeafBelow n) (left_out is)
  skip_below true = All-cons (IsLeafBelow n) leaf.StrongOnly [] tt (All-nil (IsLeafBelow n))
  skip_below false = All-nil (IsLeafBelow n)

  mutual
    pub leaves_below : (node : ℕ) (ls : List Leaf) → HasLeaves tree ys node ls → All (IsLeafBelow n) ls
    leaves_below node ls (one l is leaves) = rw leaves (All-cons (IsLeafBelow n) l [] (below node l is) (All-nil (IsLeafBelow n)))
    leaves_below node ls (handed p is has) = leaves_below p ls has
    leaves_below node ls (several those is all leaves) =
        rw leaves (All-append (IsLeafBelow n) those (left_out (is_open tree (kind_at tree node) (parts_at tree node))) (all_below (chosen tree node) those all) (skip_below (is_open tree (kind_at tree node) (parts_at tree node))))

    all_below : (nodes : List ℕ) (ls : List Leaf) → AllHaveLeaves tree ys nodes ls → All (IsLeafBelow n) ls
    all_below [] ls (no_more leaves) = rw leaves (All-nil (IsLeafBelow n))
    all_below (x ∷ xs) ls (and_more those others here rest leaves) = rw leaves (All-append (IsLeafBelow n) those others (leaves_below x those here) (all_below xs others rest))

  -- what is collected from nothing
  pub collected_below : (node : ℕ) (old new : List Leaf) (known : Bool) → IsCollected tree ys node old new known → known ≡ true → old ≡ [] → All (IsLeafBelow n) new
  collected_below node old new true is e none = rw (is.2, none) (leaves_below node is.0 is.1)
  collected_below node old new false is e none = absurd (false≢true e)
