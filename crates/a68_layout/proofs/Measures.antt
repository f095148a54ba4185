-- What is known of modes by what is known of those within them.
use Rattle.std.proofs.Common.{◌≡◌, ℕ, zero, suc, ◌+◌, ◌-◌, ◌<◌, ◌≤◌, min, Bool, List, [], length, get_or, set, replicate, drop, refl, ap, sym, subst, inl, inr, ◌⊎◌, arith, Option, None, Some, get_or-set_same, get_or-set_other}
use Rattle.std.specs.Prelude.{IfSome}
use Rattle.std.proofs.lemmas.Bool.{cases_eq, cases_lt}
use Rattle.std.proofs.lemmas.List.{drop_more, get_or-replicate, get_or_past, length-replicate}
use Rattle.a68_layout.specs.Measuring.{IsKnown, AreKnown, most_needs}
use Rattle.a68_layout.specs.Rooms.{needs_within, needs_of_fields}
use Rattle.a68_layout.specs.declared.measured.Known.{Known}
use Rattle.a68_layout.proofs.Leaves.{IsLeaf, needs-leaf, needs-row}
use Rattle.a68_modes.specs.Nodes.{shape_at}
use Rattle.a68_modes.specs.declared.shape.Shape.{Shape}
use Rattle.a68_modes.specs.declared.shape.Shape.TheVariants.{Rows, Struct, Same}

-- ---- the table

pub known-kept : (modes : List Shape) (known : List (Option Known)) (m : ℕ) (o : Option Known) → o ≡ get_or known m None → AreKnown modes known → IfSome o (IsKnown modes m)
known-kept modes known m o e all = subst (λ (x : Option Known). IfSome x (IsKnown modes m)) (sym e) (all m)

pub known-none : (modes : List Shape) → AreKnown modes []
known-none modes = λ m. subst (λ (x : Option Known). IfSome x (IsKnown modes m)) (sym (get_or_past [] m None (omega arith))) tt

none-by : (modes : List Shape) (n m : ℕ) → (m < n) ⊎ (n ≤ m) → IfSome (get_or (replicate n None) m None) (IsKnown modes m)
none-by modes n m (inl lt) = subst (λ (x : Option Known). IfSome x (IsKnown modes m)) (sym (get_or-replicate n m None None lt)) tt
none-by modes n m (inr le) =
    let past : length (replicate {A = Option Known} n None) ≤ m = omega (arith, length-replicate {A = Option Known} n None) in
    subst (λ (x : Option Known). IfSome x (IsKnown modes m)) (sym (get_or_past (replicate n None) m None past)) tt

pub known_begin : (modes : List Shape) (n : ℕ) (known : List (Option Known)) → known ≡ replicate n None → AreKnown modes known
known_begin modes n known e = subst (AreKnown modes) (sym e) (λ m. none-by modes n m (cases_lt m n))

set-by : (modes : List Shape) (known : List (Option Known)) (m j : ℕ) (o : Option Known) → m < length known → IfSome o (IsKnown modes m) → AreKnown modes known
    → (j ≡ m) ⊎ (j ≡ m → ⊥) → IfSome (get_or (set known m o) j None) (IsKnown modes j)
set-by modes known m j o lt new all (inl e) =
    subst (λ (i : ℕ). IfSome (get_or (set known m o) i None) (IsKnown modes i)) (sym e)
    (subst (λ (x : Option Known). IfSome x (IsKnown modes m)) (sym (get_or-set_same known m o None lt)) new)
set-by modes known m j o lt new all (inr ne) = subst (λ (x : Option Known). IfSome x (IsKnown modes j)) (sym (get_or-set_other known m j o None ne)) (all j)

pub known-set : (modes : List Shape) (known : List (Option Known)) (m : ℕ) (o : Option Known) → m < length known → IfSome o (IsKnown modes m) → AreKnown modes known → AreKnown modes (set known m o)
known-set modes known m o lt new all = λ j. set-by modes known m j o lt new all (cases_eq j m)

-- ---- a mode

pub known-leaf : (modes : List Shape) (m : ℕ) → IsLeaf (shape_at modes m) → IsKnown modes m (record { depth = 0; needs = 0 })
known-leaf modes m is = λ n le. needs-leaf most_needs n modes m is

abbrev pub IsAround : (inner : Known) (dims : ℕ) → Known → Type 0
IsAround inner dims k = (k.depth ≡ inner.depth + 1) × (k.needs ≡ min most_needs (dims + inner.needs))

pub known-row : (modes : List Shape) (m dims : ℕ) (flex : Bool) (of : ℕ) (inner : Known) (o : Option Known) → Rows dims flex of ≡ shape_at modes m → IsKnown modes of inner
    → IfSome o (IsAround inner dims) → IfSome o (IsKnown modes m)
known-row modes m dims flex of inner None is k e = tt
known-row modes m dims flex of inner (Some all) is k e =
    λ n le.
    let some : n ≡ 0 → ⊥ = λ z. absurd (omega (arith, e.0, le, z)) in
    let whole = needs-row n modes m dims flex of some is in
    let below : inner.depth ≤ n - 1 = omega (arith, e.0, le) in
    let one = k (n - 1) below in
    omega (arith, whole, one, e.1)

needs-structure : (n : ℕ) (modes : List Shape) (m : ℕ) (fields : List (ℕ × ℕ)) → (n ≡ 0 → ⊥) → Struct fields ≡ shape_at modes m → needs_within n modes m ≡ needs_of_fields (needs_within (n - 1) modes) fields
needs-structure zero modes m fields some e = absurd (some refl)
needs-structure (suc n) modes m fields some e =
    let one : suc n - 1 ≡ n = omega arith in
    rw (one, ← e) refl

needs-same : (n : ℕ) (modes : List Shape) (m k : ℕ) → (n ≡ 0 → ⊥) → Same k ≡ shape_at modes m → needs_within n modes m ≡ needs_within (n - 1) modes k
needs-same zero modes m k some e = absurd (some refl)
needs-same (suc n) modes m k some e =
    let one : suc n - 1 ≡ n = omega arith in
    rw (one, ← e) refl

pub known-structure : (modes : List Shape) (m : ℕ) (fields : List (ℕ × ℕ)) (inner : Known) (o : Option Known) → Struct fields ≡ shape_at modes m
    → ((n : ℕ) → inner.depth ≤ n → inner.needs ≡ min most_needs (needs_of_fields (needs_within n modes) fields)) → IfSome o (IsAround inner 0) → IfSome o (IsKnown modes m)
known-structure modes m fields inner None is k e = tt
known-structure modes m fields inner (Some all) is k e =
    λ n le.
    let some : n ≡ 0 → ⊥ = λ z. absurd (omega (arith, e.0, le, z)) in
    let whole = needs-structure n modes m fields some is in
    let below : inner.depth ≤ n - 1 = omega (arith, e.0, le) in
    let one = k (n - 1) below in
    omega (arith, whole, one, e.1)

pub known-same : (modes : List Shape) (m of : ℕ) (inner : Known) (o : Option Known) → Same of ≡ shape_at modes m → IsKnown modes of inner
    → IfSome o (IsAround inner 0) → IfSome o (IsKnown modes m)
known-same modes m of inner None is k e = tt
known-same modes m of inner (Some all) is k e =
    λ n le.
    let some : n ≡ 0 → ⊥ = λ z. absurd (omega (arith, e.0, le, z)) in
    let whole = needs-same n modes m of some is in
    let below : inner.depth ≤ n - 1 = omega (arith, e.0, le) in
    let one = k (n - 1) below in
    omega (arith, whole, one, e.1)

-- ---- fields

-- what is counted, and the fields that are left
abbrev pub IsSum : List Shape → (all : Known) (rest fields : List (ℕ × ℕ)) → Type 0
IsSum modes all rest fields =
    (n : ℕ) → all.depth ≤ n → min most_needs (all.needs + needs_of_fields (needs_within n modes) rest) ≡ min most_needs (needs_of_fields (needs_within n modes) fields)

pub sum-on : (modes : List Shape) (all one new : Known) (fields : List (ℕ × ℕ)) (i : ℕ) (d : ℕ × ℕ) → i < length fields → IsKnown modes (get_or fields i d).1 one
    → all.depth ≤ new.depth → one.depth ≤ new.depth → new.needs ≡ min most_needs (all.needs + one.needs)
    → IsSum modes all (drop i fields) fields → IsSum modes new (drop (i + 1) fields) fields
sum-on modes all one new fields i d lt k a b e s =
    λ n le.
    let more = ap (needs_of_fields (needs_within n modes)) (drop_more fields i d lt) in
    let first = k n (omega (arith, b, le)) in
    let sum = s n (omega (arith, a, le)) in
    omega (arith, more, first, sum, e)

pub sum-end : (modes : List Shape) (all : Known) (rest fields : List (ℕ × ℕ)) → rest ≡ [] → all.needs ≤ most_needs → IsSum modes all rest fields
    → (n : ℕ) → all.depth ≤ n → all.needs ≡ min most_needs (needs_of_fields (needs_within n modes) fields)
sum-end modes all rest fields e fits s n le =
    let none = ap (needs_of_fields (needs_within n modes)) e in
    let sum = s n le in
    omega (arith, none, sum, fits)
