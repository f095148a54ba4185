-- What every list of modes keeps, where a node is added or gets its shape.
use Rattle.std.proofs.Common.{Bool, true, false, cond, ◌≡◌, ◌<◌, ◌≤◌, ◌⊎◌, ◌++◌, ℕ, zero, suc, List, [], ◌∷◌, length, get_or, set, take, refl, sym, ap, ◌∙◌, arith, subst, inl, inr, get_or-set_same, get_or-set_other, length-set, length-append, lit<, lit≤}
use Rattle.std.proofs.Math.ListN.{get_or-append}
use Rattle.std.proofs.Math.Seq.{get_or-append_seam}
use Rattle.std.specs.List.{AllByRecursion}
use Rattle.std.proofs.lemmas.Bool.{cases_eq, cases_lt}
use Rattle.std.proofs.lemmas.List.{take-append-le, take-set-le, length-take, get_or-take}
use Rattle.std.proofs.lemmas.List.Elements.{All-weaker, All-from_recursion}
use Rattle.a68_modes.specs.declared.shape.Shape.{Shape}
use Rattle.a68_modes.specs.declared.shape.Shape.TheVariants.{Blank}
use Rattle.a68_modes.specs.Nodes.{shape_at, parts_of, ShapeIsWithin, standard_shapes, HoldsNodes}

-- a shape within a list is within a longer one
pub wider : (n m : ℕ) (s : Shape) → n ≤ m → ShapeIsWithin n s → ShapeIsWithin m s
wider n m s h = All-weaker (λ k. k < n) (λ k. k < m) (λ k g. omega arith) (parts_of s)

-- the standard nodes are there
pub fifteen : (nodes : List Shape) → HoldsNodes nodes → 15 ≤ length nodes
fifteen nodes h =
    let e : length (take 15 nodes) ≡ 15 = ap length h.standard in
    let f = length-take 15 nodes in
    omega arith

abbrev NoneBlank : List Shape → Type 0
NoneBlank [] = Unit {0}
NoneBlank (s ∷ ss) = (s ≡ Blank → ⊥) × NoneBlank ss

none_blank : (ss : List Shape) (k : ℕ) → NoneBlank ss → k < length ss → get_or ss k Blank ≡ Blank → ⊥
none_blank [] k h lt e = omega arith
none_blank (s ∷ ss) zero h lt e = h.0 e
none_blank (s ∷ ss) (suc k) h lt e = none_blank ss k h.1 (omega arith) e

standard_none : NoneBlank standard_shapes
standard_none =
    (λ e. cc, (λ e. cc, (λ e. cc, (λ e. cc, (λ e. cc, (λ e. cc, (λ e. cc, (λ e. cc, (λ e. cc, (λ e. cc, (λ e. cc, (λ e. cc, (λ e. cc, (λ e. cc, (λ e. cc, tt)))))))))))))))

-- a Blank node stands behind the standard ones
pub blank_behind : (nodes : List Shape) (m : ℕ) → HoldsNodes nodes → shape_at nodes m ≡ Blank → 15 ≤ m
blank_behind nodes m h e = go (cases_lt m 15)
  where
    go : (m < 15) ⊎ (15 ≤ m) → 15 ≤ m
    go (inl lt) =
        let same : get_or standard_shapes m Blank ≡ Blank = ap (λ (xs : List Shape). get_or xs m Blank) (sym h.standard) ∙ get_or-take 15 nodes m Blank lt ∙ e in
        absurd (none_blank standard_shapes m standard_none lt same)
    go (inr le) = le

-- one node more
pub grown : (nodes : List Shape) (s : Shape) → HoldsNodes nodes → ShapeIsWithin (length nodes) s → length nodes < 16777216 → HoldsNodes (nodes ++ s ∷ [])
grown nodes s h w lt = record {
  standard = take-append-le 15 nodes (s ∷ []) (fifteen nodes h) ∙ h.standard;
  within = λ m g. rw more (each m (cases_eq m (length nodes)) g);
  few = let e = more in omega arith;
}
  where
    more : length (nodes ++ s ∷ []) ≡ suc (length nodes)
    more = omega (arith, length-append nodes (s ∷ []))

    each : (m : ℕ) → (m ≡ length nodes) ⊎ (m ≡ length nodes → ⊥) → m < length (nodes ++ s ∷ []) → ShapeIsWithin (suc (length nodes)) (shape_at (nodes ++ s ∷ []) m)
    each m (inl e) g = rw (e, get_or-append_seam nodes s [] Blank) (wider (length nodes) (suc (length nodes)) s (omega arith) w)
    each m (inr ne) g =
        let l = more in
        let below : m < length nodes = omega arith in
        rw (get_or-append nodes (s ∷ []) Blank m below) (wider (length nodes) (suc (length nodes)) (shape_at nodes m) (omega arith) (h.within m below))

-- a Blank node gets its shape
pub changed : (nodes : List Shape) (id : ℕ) (s : Shape) → HoldsNodes nodes → shape_at nodes id ≡ Blank → id < length nodes → ShapeIsWithin (length nodes) s → HoldsNodes (set nodes id s)
changed nodes id s h blank lt w = record {
  standard = take-set-le 15 nodes id s (blank_behind nodes id h blank) ∙ h.standard;
  within = λ m g. rw (length-set nodes id s) (each m (cases_eq m id) (let l = length-set nodes id s in omega arith));
  few = let l = length-set nodes id s in let f = h.few in omega arith;
}
  where
    each : (m : ℕ) → (m ≡ id) ⊎ (m ≡ id → ⊥) → m < length nodes → ShapeIsWithin (length nodes) (shape_at (set nodes id s) m)
    each m (inl e) g = rw (e, get_or-set_same nodes id s Blank lt) w
    each m (inr ne) g = rw (get_or-set_other nodes id m s Blank ne) (h.within m g)

abbrev EachWithin : ℕ → List Shape → Type 0
EachWithin n [] = Unit {0}
EachWithin n (s ∷ ss) = AllByRecursion (λ m. m < n) (parts_of s) × EachWithin n ss

each_within : (n : ℕ) (ss : List Shape) (m : ℕ) → EachWithin n ss → m < length ss → ShapeIsWithin n (shape_at ss m)
each_within n [] m h lt = absurd (omega arith)
each_within n (s ∷ ss) zero h lt = All-from_recursion (λ k. k < n) (parts_of s) h.0
each_within n (s ∷ ss) (suc m) h lt = each_within n ss m h.1 (omega arith)

standard_within : EachWithin 15 standard_shapes
standard_within =
    let below : (1 < 15) × Unit {0} = (lit< tt, tt) in
    (tt, (tt, (tt, (tt, (tt, (tt, (tt, ((lit< tt, tt), ((lit< tt, (lit< tt, (lit< tt, (lit< tt, (lit< tt, (lit< tt, (lit< tt, tt))))))), (below, ((lit< tt, tt), ((lit< tt, tt), ((lit< tt, tt), (tt, ((lit< tt, tt), tt)))))))))))))))

-- the standard modes alone
pub standard_holds : HoldsNodes standard_shapes
standard_holds = record { standard = refl; within = λ m g. each_within 15 standard_shapes m standard_within g; few = lit≤ tt }

-- one node more, or none
pub pushed : (b : Bool) (nodes new : List Shape) (s : Shape) → HoldsNodes nodes → ShapeIsWithin (length nodes) s → length nodes < 16777216 → new ≡ cond b (nodes ++ s ∷ []) nodes → HoldsNodes new
pushed true nodes new s h w lt e = subst HoldsNodes (sym e) (grown nodes s h w lt)
pushed false nodes new s h w lt e = subst HoldsNodes (sym e) h
