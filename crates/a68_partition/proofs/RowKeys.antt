-- The keys of rows: equal exactly where the rows are alike by the classes.
use Rattle.std.proofs.Common.{◌≡◌, ◌<◌, ℕ, suc, List, [], ◌∷◌, Bool, true, false, length, get_or, refl, sym, ap, ◌∙◌, arith, subst}
use Rattle.std.specs.Prelude.{map}
use Rattle.std.specs.List.{Contains}
use Rattle.std.proofs.lemmas.List.{get_or-map, length-map}
use Rattle.std.proofs.lemmas.List.Elements.{Contains-get_or}
use Rattle.std.proofs.lemmas.List.Kept.{AllPairs-from_increasing}
use Rattle.a68_partition.specs.Rows.{row_at, Stands}
use Rattle.a68_partition.specs.Rounds.{IsSetOf, IsRowKey, HasRowKey}
use Rattle.a68_partition.proofs.Sets.{rising_same, in_tail, at_head}
use Rattle.a68_partition.proofs.Numbering.{OneKey}

-- the classes c are the same
abbrev pub SameIn : List ℕ → ℕ → ℕ → Type 0
SameIn c a b = get_or c a 0 ≡ get_or c b 0

-- what stands in the one row is R-related to something that stands at that place in the other
abbrev pub Covers : (ℕ → ℕ → Type 0) → Bool → List ℕ → Bool → List ℕ → Type 0
Covers R u xs v ys = (place x : ℕ) → Stands u xs place x → (y : ℕ) × Stands v ys place y × R x y

-- a list of the classes, item by item
abbrev pub classes_of : List ℕ → List ℕ → List ℕ
classes_of c xs = map (λ w. get_or c w 0) xs

-- sets
half : (c ms ns s t : List ℕ) → IsSetOf c ms s → IsSetOf c ns t → Covers (SameIn c) true ms true ns → (z : ℕ) → Contains s z → Contains t z
half c ms ns s t p q h z i =
    let w = p.only z i in
    let v = h 0 w.0 (refl, w.1) in
    let e : get_or c v.0 0 ≡ z = sym v.2 ∙ w.2 in
    subst (λ (k : ℕ). Contains t k) e (q.has v.0 v.1.1)

same_set : (c ms ns s t : List ℕ) → IsSetOf c ms s → IsSetOf c ns t → Covers (SameIn c) true ms true ns → Covers (SameIn c) true ns true ms → s ≡ t
same_set c ms ns s t p q h g =
    rising_same s t (AllPairs-from_increasing s p.rises) (AllPairs-from_increasing t q.rises) (half c ms ns s t p q h) (half c ns ms t s q p g)

from_set : (c ms ns s : List ℕ) → IsSetOf c ms s → IsSetOf c ns s → Covers (SameIn c) true ms true ns
from_set c ms ns s p q = λ place x st. let w = q.only (get_or c x 0) (p.has x st.1) in (w.0, (st.0, w.1), sym w.2)

-- lists
abbrev Pointwise : List ℕ → List ℕ → List ℕ → Type 0
Pointwise c xs ys = (k : ℕ) → k < length xs → (k < length ys) × SameIn c (get_or xs k 0) (get_or ys k 0)

pointwise : (c xs ys : List ℕ) → Covers (SameIn c) false xs false ys → Pointwise c xs ys
pointwise c xs ys h k lt = let w = h k (get_or xs k 0) (lt, refl) in (w.1.0, w.2 ∙ ap (λ (y : ℕ). get_or c y 0) (sym w.1.1))

same_list : (c xs ys : List ℕ) → Pointwise c xs ys → Pointwise c ys xs → classes_of c xs ≡ classes_of c ys
same_list c [] [] h g = refl
same_list c [] (y ∷ ys) h g = let w = (g 0 (omega arith)).0 in absurd (omega arith)
same_list c (x ∷ xs) [] h g = let w = (h 0 (omega arith)).0 in absurd (omega arith)
same_list c (x ∷ xs) (y ∷ ys) h g =
    let first = (h 0 (omega arith)).1 in
    let rest = same_list c xs ys
    (λ k lt. let w = h (suc k) (omega arith) in let l = w.0 in (omega arith, w.1))
    (λ k lt. let w = g (suc k) (omega arith) in let l = w.0 in (omega arith, w.1)) in
    cc

from_list : (c xs ys : List ℕ) → classes_of c xs ≡ classes_of c ys → Covers (SameIn c) false xs false ys
from_list c xs ys e = λ place x st.
    let lx = length-map xs (λ w. get_or c w 0) in
    let ly = length-map ys (λ w. get_or c w 0) in
    let same = ap length e in
    let lt = st.0 in
    let lt' : place < length ys = omega arith in
    let at : get_or c x 0 ≡ get_or c (get_or ys place 0) 0 =
    ap (λ (w : ℕ). get_or c w 0) (sym st.1) ∙ sym (get_or-map (λ w. get_or c w 0) xs place 0 0 st.0) ∙ ap (λ (zs : List ℕ). get_or zs place 0) e ∙ get_or-map (λ w. get_or c w 0) ys place 0 0 lt' in
    (get_or ys place 0, (lt', refl), at)

-- a key begins with its first number
pub begins : (c : List ℕ) (k : ℕ) (u : Bool) (xs x : List ℕ) → IsRowKey c k u xs x → (rest : List ℕ) × (x ≡ k ∷ rest)
begins c k true xs x p = (p.0, p.1)
begins c k false xs x p = (classes_of c xs, p)

pub same_first : (c : List ℕ) (k l : ℕ) (u v : Bool) (xs ys x : List ℕ) → IsRowKey c k u xs x → IsRowKey c l v ys x → k ≡ l
same_first c k l u v xs ys x p q =
    let a = (begins c k u xs x p).1 in
    let b = (begins c l v ys x q).1 in
    cc

-- one key for rows that are alike by the classes
pub one_key : (c : List ℕ) (k l : ℕ) (u v : Bool) (xs ys x y : List ℕ) → u ≡ v → k ≡ l → Covers (SameIn c) u xs v ys → Covers (SameIn c) v ys u xs → IsRowKey c k u xs x → IsRowKey c l v ys y → x ≡ y
one_key c k l true true xs ys x y e f h g p q =
    let same = same_set c xs ys p.0 q.0 p.2 q.2 h g in
    let p1 = p.1 in let q1 = q.1 in cc
one_key c k l false false xs ys x y e f h g p q =
    let same = same_list c xs ys (pointwise c xs ys h) (pointwise c ys xs g) in cc
one_key c k l true false xs ys x y e f h g p q = absurd (cc)
one_key c k l false true xs ys x y e f h g p q = absurd (cc)

-- and the other way round
pub from_key : (c : List ℕ) (k l : ℕ) (u v : Bool) (xs ys x : List ℕ) → u ≡ v → IsRowKey c k u xs x → IsRowKey c l v ys x → Covers (SameIn c) u xs v ys
from_key c k l true true xs ys x e p q =
    let p1 = p.1 in let q1 = q.1 in
    let same : q.0 ≡ p.0 = cc in
    from_set c xs ys p.0 p.2 (subst (λ (s : List ℕ). IsSetOf c ys s) same q.2)
from_key c k l false false xs ys x e p q =
    let same : classes_of c xs ≡ classes_of c ys = cc in
    from_list c xs ys same
from_key c k l true false xs ys x e p q = absurd (cc)
from_key c k l false true xs ys x e p q = absurd (cc)

pub itself : (c : List ℕ) (u : Bool) (xs : List ℕ) → Covers (SameIn c) u xs u xs
itself c u xs = λ place x st. (x, st, refl)

-- a number has one key
pub one : (rows : List (Bool × List ℕ)) (c : List ℕ) → OneKey (HasRowKey rows c)
one rows c m x y p q =
    one_key c (get_or c m 0) (get_or c m 0) (row_at rows m).0 (row_at rows m).0 (row_at rows m).1 (row_at rows m).1 x y refl refl
    (itself c (row_at rows m).0 (row_at rows m).1) (itself c (row_at rows m).0 (row_at rows m).1) p q

-- a set that was made of the classes
pub set_has : (c xs set : List ℕ) → ((y : ℕ) → Contains (classes_of c xs) y → Contains set y) → (w : ℕ) → Contains xs w → Contains set (get_or c w 0)
set_has c xs set h w i =
    let l = length-map xs (λ k. get_or c k 0) in let lt = i.1 in
    h (get_or c w 0) (i.0, omega arith, get_or-map (λ k. get_or c k 0) xs i.0 w (get_or c w 0) i.1 ∙ ap (λ (k : ℕ). get_or c k 0) i.2)

pub set_only : (c xs : List ℕ) (y : ℕ) → Contains (classes_of c xs) y → (w : ℕ) × Contains xs w × (get_or c w 0 ≡ y)
set_only c xs y i =
    let l = length-map xs (λ k. get_or c k 0) in let lt = i.1 in
    let lt' : i.0 < length xs = omega arith in
    (get_or xs i.0 0, Contains-get_or xs i.0 0 lt', sym (get_or-map (λ k. get_or c k 0) xs i.0 0 y lt') ∙ i.2)

same_map : (f g : ℕ → ℕ) (xs : List ℕ) → ((w : ℕ) → Contains xs w → f w ≡ g w) → map f xs ≡ map g xs
same_map f g [] h = refl
same_map f g (x ∷ xs) h =
    let first = h x (at_head x xs) in
    let rest = same_map f g xs (λ w i. h w (in_tail x xs w i)) in
    cc

-- classes that agree on what stands in a row give one key
pub row_key_on : (c d : List ℕ) (k : ℕ) (u : Bool) (xs key : List ℕ) → ((w : ℕ) → Contains xs w → get_or d w 0 ≡ get_or c w 0) → IsRowKey c k u xs key → IsRowKey d k u xs key
row_key_on c d k true xs key same p = (
  p.0,
  p.1,
  record {
    rises = p.2.rises;
    has = λ w i. subst (λ (y : ℕ). Contains p.0 y) (sym (same w i)) (p.2.has w i);
    only = λ x i. let w = p.2.only x i in (w.0, w.1, same w.0 w.1 ∙ w.2);
  },
)
row_key_on c d k false xs key same p = p ∙ ap (λ (ys : List ℕ). k ∷ ys) (sym (same_map (λ w. get_or d w 0) (λ w. get_or c w 0) xs same))
