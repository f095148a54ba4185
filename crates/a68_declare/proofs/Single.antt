-- The clean modes of a tree are one list.
use Rattle.std.proofs.Common.{◌≡◌, ◌<◌, ◌≤◌, ℕ, zero, suc, List, [], ◌∷◌, Bool as Truth, true, false, length, get_or, refl, sym, ap, ◌∙◌, arith, subst, ⊎_elim}
use Rattle.std.specs.Prelude.{◌↔◌, map}
use Rattle.std.specs.List.{Contains}
use Rattle.std.specs.List.Sorted.{IsStrictlyIncreasing, IsStrictlySortedBy}
use Rattle.std.specs.Ordering.{nat_cmp}
use Rattle.std.proofs.lemmas.Bool.{cases_lt}
use Rattle.std.proofs.lemmas.List.{ext_get_or}
use Rattle.std.proofs.lemmas.Map.Keys.{below_from_sorted, sorted_from_strictly_increasing, sorted_tail}
use Rattle.std.proofs.lemmas.Map.Made.{Contains-tail}
use Rattle.a68_declare.proofs.Imaging.{other_image, union_image, images_of, renumbered_same}
use Rattle.a68_declare.proofs.One.{raw_one, same_number}
use Rattle.a68_declare.proofs.Standing.{standard_at}
use Rattle.a68_declare.specs.Clean.{CleansTo, IsImage, IsRising, IsUnionImage}
use Rattle.a68_declare.specs.Outcome.{AreByNode, AreModesOf, ByNode}
use Rattle.a68_equiv.proofs.Grasp.{behind_below}
use Rattle.a68_equiv.proofs.Growing.{way_below}
use Rattle.a68_equiv.specs.declared.steps.Inward.TheVariants.{WithinUnions}
use Rattle.a68_equiv.specs.Unfolding.{behind, unfolded, is_union}
use Rattle.a68_modes.specs.declared.shape.Shape.{Shape}
use Rattle.a68_modes.specs.declared.shape.Shape.TheVariants.{Union, Blank}
use Rattle.a68_modes.specs.Nodes.{shape_at, parts_of, HoldsNodes}
use Rattle.a68_ranges.specs.Twice.{IsTwice}
use Rattle.a68_tree.specs.Trees.{Built}

-- ---- lists that rise

head_in : (x : ℕ) (xs : List ℕ) → Contains (x ∷ xs) x
head_in x xs = (0, omega arith, refl)

tail_in : (x z : ℕ) (xs : List ℕ) → Contains xs z → Contains (x ∷ xs) z
tail_in x z xs (k, less, e) = (suc k, omega (arith, less), e)

-- each other number is greater than the first
first_least : (x z : ℕ) (xs : List ℕ) → IsStrictlySortedBy nat_cmp (x ∷ xs) → Contains (x ∷ xs) z → x ≤ z
first_least x z xs up (zero, less, e) = let same : x ≡ z = e in omega arith
first_least x z xs up (suc k, less, e) = let lt : x < get_or xs k z = below_from_sorted (x ∷ xs) 0 (suc k) z up (omega arith) less in let same : get_or xs k z ≡ z = e in omega arith

beyond : (x z : ℕ) (xs : List ℕ) → IsStrictlySortedBy nat_cmp (x ∷ xs) → Contains xs z → x < z
beyond x z xs up (k, less, e) = let lt : x < get_or xs k z = below_from_sorted (x ∷ xs) 0 (suc k) z up (omega arith) (omega (arith, less)) in let same : get_or xs k z ≡ z = e in omega arith

sorted_one : (xs ys : List ℕ) → IsStrictlySortedBy nat_cmp xs → IsStrictlySortedBy nat_cmp ys → ((z : ℕ) → Contains xs z ↔ Contains ys z) → xs ≡ ys
sorted_one [] [] p q same = refl
sorted_one [] (y ∷ ys) p q same = let c = (same y).1 (head_in y ys) in absurd (let l = c.1 in omega arith)
sorted_one (x ∷ xs) [] p q same = let c = (same x).0 (head_in x xs) in absurd (let l = c.1 in omega arith)
sorted_one (x ∷ xs) (y ∷ ys) p q same =
    let le = first_least x y xs p ((same y).1 (head_in y ys)) in
    let ge = first_least y x ys q ((same x).0 (head_in x xs)) in
    let first : x ≡ y = omega arith in
    let rest = sorted_one xs ys (sorted_tail nat_cmp x xs p) (sorted_tail nat_cmp y ys q) (λ z. (
      λ c. let lt = beyond x z xs p c in Contains-tail y ys z (λ e. omega arith) ((same z).0 (tail_in x z xs c)),
      λ c. let lt = beyond y z ys q c in Contains-tail x xs z (λ e. omega arith) ((same z).1 (tail_in y z ys c)),
    )) in
    ap (λ k. k ∷ xs) first ∙ ap (λ (zs : List ℕ). y ∷ zs) rest

pub rising_one : (xs ys : List ℕ) → IsStrictlyIncreasing xs → IsStrictlyIncreasing ys → ((z : ℕ) → Contains xs z ↔ Contains ys z) → xs ≡ ys
rising_one xs ys p q same = sorted_one xs ys (sorted_from_strictly_increasing xs p) (sorted_from_strictly_increasing ys q) same

map_one : (f g : ℕ → ℕ) (xs : List ℕ) (n : ℕ) → ((k : ℕ) (d : ℕ) → k < length xs → get_or xs k d < n) → ((m : ℕ) → m < n → f m ≡ g m) → map f xs ≡ map g xs
map_one f g [] n within same = refl
map_one f g (x ∷ xs) n within same = ap (λ y. y ∷ map f xs) (same x (within 0 0 (omega arith))) ∙ ap (λ (ys : List ℕ). g x ∷ ys) (map_one f g xs n (λ k d h. within (suc k) d (omega arith)) same)

-- ---- what modes are cleaned to is one

module _ (old one other : List Shape) (to by : ℕ → ℕ) (holds : HoldsNodes old) (a : CleansTo old to one) (b : CleansTo old by other) where
  -- each number is given in both at the same node first
  not_less : (c d : ℕ → ℕ) (new next : List Shape) → CleansTo old c new → CleansTo old d next → (m : ℕ) → m < length old → ((k : ℕ) → k < m → c k ≡ d k) → c m < d m → ⊥
  not_less c d new next p q m h before less =
      let r = q.in_order m (c m) h less in
      let lt = r.1 in
      let hk : r.0 < length old = omega arith in
      let same = (q.same r.0 m hk h).1 ((p.same r.0 m hk h).0 (before r.0 r.1 ∙ r.2)) in
      let e : c m ≡ d m = sym r.2 ∙ same in
      omega arith

  numbers_below : (n m : ℕ) → m < n → m < length old → to m ≡ by m
  numbers_below zero m less h = absurd (omega arith)
  numbers_below (suc n) m less h =
      let before : (k : ℕ) → k < m → to k ≡ by k = λ k l. numbers_below n k (omega arith) (omega arith) in
      ⊎_elim
      (λ (lt : to m < by m). absurd (not_less to by one other a b m h before lt))
      (λ ge. ⊎_elim
      (λ (lt : by m < to m). absurd (not_less by to other one b a m h (λ k l. sym (before k l)) lt))
      (λ le. omega arith)
      (cases_lt (by m) (to m)))
      (cases_lt (to m) (by m))

  pub numbers_one : (m : ℕ) → m < length old → to m ≡ by m
  numbers_one m h = numbers_below (suc m) m (omega arith) h

  no_longer : (c d : ℕ → ℕ) (new next : List Shape) → CleansTo old c new → CleansTo old d next → ((m : ℕ) → m < length old → c m ≡ d m) → length new ≤ length next
  no_longer c d new next p q same = ⊎_elim
      (λ (lt : length next < length new).
      let r = p.onto (length next) lt in
      let there = q.there r.0 r.1 in
      let e = same r.0 r.1 in
      let f = r.2 in
      absurd (omega arith))
      (λ h. h)
      (cases_lt (length next) (length new))

  member_same : (m : ℕ) → m < length old → (images others : List ℕ) → IsUnionImage old to m (Union images) → IsUnionImage old by m (Union others) → (z : ℕ) → Contains images z ↔ Contains others z
  member_same m h images others p q z = (
    λ c. let x = (p z).0 c in (q z).1 (x.0, x.1, sym (numbers_one x.0 (way_below old holds WithinUnions m x.0 h x.1.way)) ∙ x.2),
    λ c. let x = (q z).0 c in (p z).1 (x.0, x.1, numbers_one x.0 (way_below old holds WithinUnions m x.0 h x.1.way) ∙ x.2),
  )

  image_one : (m : ℕ) → m < length old → (s t : Shape) → IsRising s → IsRising t → IsImage old to m (unfolded old m) s → IsImage old by m (unfolded old m) t → s ≡ t
  image_one m h s t up rises p q = go (is_union (unfolded old m)) refl
    where
      go : (u : Truth) → is_union (unfolded old m) ≡ u → s ≡ t
      go true u =
          let i = union_image old to m (unfolded old m) s u p in
          let j = union_image old by m (unfolded old m) t u q in
          let xs = images_of old to m s i in
          let ys = images_of old by m t j in
          let e = rising_one xs.0 ys.0 (subst IsRising xs.1 up) (subst IsRising ys.1 rises) (member_same m h xs.0 ys.0 (subst (IsUnionImage old to m) xs.1 i) (subst (IsUnionImage old by m) ys.1 j)) in
          xs.1 ∙ ap Union e ∙ sym ys.1
      go false u =
          other_image old to m (unfolded old m) s u p
          ∙ renumbered_same to by (unfolded old m) u (map_one to by (parts_of (unfolded old m)) (length old) (holds.within (behind old (length old) m) (behind_below old holds (length old) m h)) numbers_one)
          ∙ sym (other_image old by m (unfolded old m) t u q)

  shape_one : (j : ℕ) → j < length one → get_or one j Blank ≡ get_or other j Blank
  shape_one j h = ⊎_elim
      (λ low. standard_at one a.clean.holds j low ∙ sym (standard_at other b.clean.holds j low))
      (λ high.
      let r = a.onto j h in
      let m = r.0 in
      let lt = r.1 in
      let e = numbers_one m lt in
      let there = b.there m lt in
      let f = r.2 in
      let back : by m ≡ j = sym e ∙ f in
      let hj : j < length other = omega arith in
      image_one m lt (shape_at one j) (shape_at other j) (a.rising j high h) (b.rising j high hj)
      (subst (λ k. IsImage old to m (unfolded old m) (shape_at one k)) f (a.images m lt))
      (subst (λ k. IsImage old by m (unfolded old m) (shape_at other k)) back (b.images m lt)))
      (cases_lt j 15)

  pub clean_one : one ≡ other
  clean_one =
      let p = no_longer to by one other a b numbers_one in
      let q = no_longer by to other one b a (λ m h. sym (numbers_one m h)) in
      ext_get_or Blank one other (omega arith) shape_one

-- ---- the modes of a tree

by_node_one : (tree : Built) (f g : ℕ → ℕ) (xs ys : List ℕ) → ((d : ℕ) → f d ≡ g d) → AreByNode tree f xs → AreByNode tree g ys → xs ≡ ys
by_node_one tree f g xs ys same p q =
    let l = p.long in
    let m = q.long in
    ext_get_or 0 xs ys (omega arith) (λ d h. p.each d (omega arith) ∙ same d ∙ sym (q.each d (omega arith)))

both_lists : (p q : ByNode) → p.as_they_stand ≡ q.as_they_stand → p.without_flex ≡ q.without_flex → p ≡ q
both_lists p q e f =
    ap (λ (xs : List ℕ). let r : ByNode = record { as_they_stand = xs; without_flex = p.without_flex } in r) e
    ∙ ap (λ (xs : List ℕ). let r : ByNode = record { as_they_stand = q.as_they_stand; without_flex = xs } in r) f

module _ (tree : Built) (once : (id : ℕ) → IsTwice tree id → ⊥) (one other : List Shape) (of of_other : ByNode) (a : AreModesOf tree one of) (b : AreModesOf tree other of_other) where
  from : CleansTo a.raw b.to other
  from = subst (λ raw. CleansTo raw b.to other) (sym (raw_one tree once a.raw b.raw a.number b.number a.raw_are b.raw_are)) b.cleans

  number_one : (d : ℕ) (fixed : Truth) → a.to (a.number d fixed) ≡ b.to (b.number d fixed)
  number_one d fixed =
      numbers_one a.raw one other a.to b.to a.raw_are.holds a.cleans from (a.number d fixed) (a.raw_are.declared.there d fixed)
      ∙ ap b.to (same_number tree once a.raw b.raw a.number b.number a.raw_are b.raw_are d fixed)

  pub modes_one : (one ≡ other) × (of ≡ of_other)
  modes_one = (
    clean_one a.raw one other a.to b.to a.raw_are.holds a.cleans from,
    both_lists of of_other
        (by_node_one tree (λ d. a.to (a.number d false)) (λ d. b.to (b.number d false)) of.as_they_stand of_other.as_they_stand (λ d. number_one d false) a.at b.at)
        (by_node_one tree (λ d. a.to (a.number d true)) (λ d. b.to (b.number d true)) of.without_flex of_other.without_flex (λ d. number_one d true) a.fixed b.fixed),
  )
