-- What is known of modes by what is known of those within them.
use Rattle.std.proofs.Common.{◌≡◌, ◌<◌, ◌≤◌, ◌+◌, ◌-◌, ◌∙◌, ◌∷◌, ◌++◌, ◌⊎◌, ℕ, zero, suc, List, [], length, take, drop, min, set, get_or, replicate, refl, ap, sym, subst, inl, inr, arith, Option, None, Some, get_or-set_same, get_or-set_other}
use Rattle.std.proofs.lemmas.Bool.{cases_eq, cases_lt}
use Rattle.std.proofs.lemmas.List.{drop_more, get_or-replicate, get_or_past, length-replicate, take_more}
use Rattle.std.specs.Prelude.{IfSome, slice_get}
use Rattle.a68_modes.specs.Known.{AreAllStarts, AreKnown, AreStarts, IsKnown, own_fields}
use Rattle.a68_modes.specs.Nodes.{shape_at}
use Rattle.a68_modes.specs.Widths.{most_cells, width_by, width_of_fields, width_within}
use Rattle.a68_modes.specs.declared.shape.Shape.{Shape}
use Rattle.a68_modes.specs.declared.shape.Shape.TheVariants.{Blank, Same, Struct}
use Rattle.a68_modes.specs.declared.widths.Starts.{Starts}
use Rattle.a68_modes.specs.declared.widths.Width.{Width}

-- ---- what is kept

pub known-kept : (modes : List Shape) (known : List (Option Width)) (m : ℕ) (o : Option Width) → o ≡ get_or known m None → AreKnown modes known → IfSome o (IsKnown modes m)
known-kept modes known m o e all = subst (λ (x : Option Width). IfSome x (IsKnown modes m)) (sym e) (all m)

none-by : (modes : List Shape) (n m : ℕ) → (m < n) ⊎ (n ≤ m) → IfSome (get_or (replicate n None) m None) (IsKnown modes m)
none-by modes n m (inl lt) = subst (λ (x : Option Width). IfSome x (IsKnown modes m)) (sym (get_or-replicate n m None None lt)) tt
none-by modes n m (inr le) =
    let past : length (replicate {A = Option Width} n None) ≤ m = omega (arith, length-replicate {A = Option Width} n None) in
    subst (λ (x : Option Width). IfSome x (IsKnown modes m)) (sym (get_or_past (replicate n None) m None past)) tt

pub known-begin : (modes : List Shape) (n : ℕ) (known : List (Option Width)) → known ≡ replicate n None → AreKnown modes known
known-begin modes n known e = subst (AreKnown modes) (sym e) (λ m. none-by modes n m (cases_lt m n))

set-by : (modes : List Shape) (known : List (Option Width)) (m j : ℕ) (o : Option Width) → m < length known → IfSome o (IsKnown modes m) → AreKnown modes known
    → (j ≡ m) ⊎ (j ≡ m → ⊥) → IfSome (get_or (set known m o) j None) (IsKnown modes j)
set-by modes known m j o lt new all (inl e) =
    subst (λ (i : ℕ). IfSome (get_or (set known m o) i None) (IsKnown modes i)) (sym e)
    (subst (λ (x : Option Width). IfSome x (IsKnown modes m)) (sym (get_or-set_same known m o None lt)) new)
set-by modes known m j o lt new all (inr ne) = subst (λ (x : Option Width). IfSome x (IsKnown modes j)) (sym (get_or-set_other known m j o None ne)) (all j)

pub known-set : (modes : List Shape) (known : List (Option Width)) (m : ℕ) (o : Option Width) → m < length known → IfSome o (IsKnown modes m) → AreKnown modes known → AreKnown modes (set known m o)
known-set modes known m o lt new all = λ j. set-by modes known m j o lt new all (cases_eq j m)

-- ---- a mode

width_by-single : (f : ℕ → ℕ) (s : Shape) → ((x : List (ℕ × ℕ)) → s ≡ Struct x → ⊥) → ((x : ℕ) → s ≡ Same x → ⊥) → width_by f s ≡ 1
width_by-single f (Struct fields) a b = absurd (a fields refl)
width_by-single f (Same m) a b = absurd (b m refl)
width_by-single f _ a b = refl

width-single : (n : ℕ) (modes : List Shape) (m : ℕ) (s : Shape) → s ≡ shape_at modes m → ((x : List (ℕ × ℕ)) → s ≡ Struct x → ⊥) → ((x : ℕ) → s ≡ Same x → ⊥) → width_within n modes m ≡ 1
width-single zero modes m s e a b = refl
width-single (suc n) modes m s e a b = ap (width_by (width_within n modes)) (sym e) ∙ width_by-single (width_within n modes) s a b

pub known-single : (modes : List Shape) (m : ℕ) (s : Shape) → s ≡ shape_at modes m → ((x : List (ℕ × ℕ)) → s ≡ Struct x → ⊥) → ((x : ℕ) → s ≡ Same x → ⊥)
    → IsKnown modes m (record { depth = 0; cells = 1 })
known-single modes m s e a b = λ n le. omega (arith, width-single n modes m s e a b)

pub known-past : (modes : List Shape) (m : ℕ) → length modes ≤ m → IsKnown modes m (record { depth = 0; cells = 1 })
known-past modes m past = known-single modes m Blank (sym (get_or_past modes m Blank past)) (λ fields e. cc) (λ k e. cc)

abbrev pub IsAround : (inner : Width) → Width → Type 0
IsAround inner k = (k.depth ≡ inner.depth + 1) × (k.cells ≡ inner.cells)

width-structure : (n : ℕ) (modes : List Shape) (m : ℕ) (fields : List (ℕ × ℕ)) → (n ≡ 0 → ⊥) → Struct fields ≡ shape_at modes m → width_within n modes m ≡ width_of_fields (width_within (n - 1) modes) fields
width-structure zero modes m fields some e = absurd (some refl)
width-structure (suc n) modes m fields some e =
    let one : suc n - 1 ≡ n = omega arith in
    rw (one, ← e) refl

width-same : (n : ℕ) (modes : List Shape) (m k : ℕ) → (n ≡ 0 → ⊥) → Same k ≡ shape_at modes m → width_within n modes m ≡ width_within (n - 1) modes k
width-same zero modes m k some e = absurd (some refl)
width-same (suc n) modes m k some e =
    let one : suc n - 1 ≡ n = omega arith in
    rw (one, ← e) refl

pub known-structure : (modes : List Shape) (m : ℕ) (fields : List (ℕ × ℕ)) (inner : Width) (o : Option Width) → Struct fields ≡ shape_at modes m
    → ((n : ℕ) → inner.depth ≤ n → inner.cells ≡ min (most_cells + 1) (width_of_fields (width_within n modes) fields)) → IfSome o (IsAround inner) → IfSome o (IsKnown modes m)
known-structure modes m fields inner None is k e = tt
known-structure modes m fields inner (Some all) is k e =
    λ n le.
    let some : n ≡ 0 → ⊥ = λ z. absurd (omega (arith, e.0, le, z)) in
    let whole = width-structure n modes m fields some is in
    let below : inner.depth ≤ n - 1 = omega (arith, e.0, le) in
    let one = k (n - 1) below in
    omega (arith, whole, one, e.1)

pub known-same : (modes : List Shape) (m of : ℕ) (inner : Width) (o : Option Width) → Same of ≡ shape_at modes m → IsKnown modes of inner → IfSome o (IsAround inner) → IfSome o (IsKnown modes m)
known-same modes m of inner None is k e = tt
known-same modes m of inner (Some all) is k e =
    λ n le.
    let some : n ≡ 0 → ⊥ = λ z. absurd (omega (arith, e.0, le, z)) in
    let whole = width-same n modes m of some is in
    let below : inner.depth ≤ n - 1 = omega (arith, e.0, le) in
    let one = k (n - 1) below in
    omega (arith, whole, one, e.1)

-- ---- fields

-- what is counted, and the fields that are left
abbrev pub IsSum : List Shape → (all : Width) (rest fields : List (ℕ × ℕ)) → Type 0
IsSum modes all rest fields =
    (n : ℕ) → all.depth ≤ n → min (most_cells + 1) (all.cells + width_of_fields (width_within n modes) rest) ≡ min (most_cells + 1) (width_of_fields (width_within n modes) fields)

pub sum-on : (modes : List Shape) (all one new : Width) (fields : List (ℕ × ℕ)) (i : ℕ) (d : ℕ × ℕ) → i < length fields → IsKnown modes (get_or fields i d).1 one
    → all.depth ≤ new.depth → one.depth ≤ new.depth → new.cells ≡ min (most_cells + 1) (all.cells + one.cells)
    → IsSum modes all (drop i fields) fields → IsSum modes new (drop (i + 1) fields) fields
sum-on modes all one new fields i d lt k a b e s =
    λ n le.
    let more = ap (width_of_fields (width_within n modes)) (drop_more fields i d lt) in
    let first = k n (omega (arith, b, le)) in
    let sum = s n (omega (arith, a, le)) in
    omega (arith, more, first, sum, e)

pub sum-end : (modes : List Shape) (all : Width) (rest fields : List (ℕ × ℕ)) → rest ≡ [] → all.cells ≤ most_cells + 1 → IsSum modes all rest fields
    → (n : ℕ) → all.depth ≤ n → all.cells ≡ min (most_cells + 1) (width_of_fields (width_within n modes) fields)
sum-end modes all rest fields e fits s n le =
    let none = ap (width_of_fields (width_within n modes)) e in
    let sum = s n le in
    omega (arith, none, sum, fits)

-- ---- lists that grow

-- one more behind those of which each is as it is to be
pub each-pushed : {A : Type 0} (P : ℕ → A → Type 0) (xs : List A) (y : A) → ((k : ℕ) → IfSome (slice_get xs k) (P k)) → P (length xs) y → (k : ℕ) → IfSome (slice_get (xs ++ y ∷ []) k) (P k)
each-pushed P [] y h p zero = p
each-pushed P [] y h p (suc k) = tt
each-pushed P (x ∷ xs) y h p zero = h zero
each-pushed P (x ∷ xs) y h p (suc k) = each-pushed (λ i. P (suc i)) xs y (λ i. h (suc i)) p k

width-append : (f : ℕ → ℕ) (some more : List (ℕ × ℕ)) → width_of_fields f (some ++ more) ≡ width_of_fields f some + width_of_fields f more
width-append f [] more = omega arith
width-append f (field ∷ some) more = omega (arith, width-append f some more)

-- the cells before the next field
pub start-on : (f : ℕ → ℕ) (fields : List (ℕ × ℕ)) (i before next cells : ℕ) (d : ℕ × ℕ) → i < length fields → before ≡ min (most_cells + 1) (width_of_fields f (take i fields))
    → cells ≡ min (most_cells + 1) (f (get_or fields i d).1) → next ≡ min (most_cells + 1) (before + cells) → next ≡ min (most_cells + 1) (width_of_fields f (take (i + 1) fields))
start-on f fields i before next cells d lt b c n =
    let more = ap (width_of_fields f) (take_more fields i d lt) in
    let sum = width-append f (take i fields) (get_or fields i d ∷ []) in
    omega (arith, more, sum, b, c, n)

-- no mode is laid out
pub none-laid : (modes : List Shape) (all : List Starts) → all ≡ [] → AreAllStarts modes all
none-laid modes all e = λ m. subst (λ (l : List Starts). IfSome (slice_get l m) (λ starts. AreStarts modes (own_fields (shape_at modes m)) starts.cells.items)) (sym e) tt
