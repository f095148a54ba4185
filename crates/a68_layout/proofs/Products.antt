-- Products that are counted up to a number.
use Rattle.std.proofs.Common.{◌≡◌, ℕ, zero, suc, ◌+◌, ◌*◌, ◌/◌, ◌-◌, ◌^◌, ◌<◌, ◌≤◌, min, max, ℤ, List, [], ◌∷◌, ◌++◌, length, get_or, drop, refl, ap, sym, ◌∙◌, ⊎_elim, arith}
use Rattle.std.proofs.Math.Nat.{mul_assoc, mul_comm, zero-mul, mul-zero, div-eq_of_eq-mul_left}
use Rattle.std.proofs.lemmas.Bool.{cases_lt}
use Rattle.std.proofs.lemmas.List.{append_assoc, drop_more}
use Rattle.std.proofs.lemmas.Nat.{mul-le}
use Rattle.a68_layout.specs.Views.{bounds_of}
use Rattle.a68_layout.specs.Widths.{most_cells, between, elements_of, strides}
use Rattle.a68_values.specs.declared.held.Dim.{Dim}

capped_product-by : (m a b c : ℕ) → c ≡ min m a → min m (c * b) ≡ min m (a * b)
capped_product-by m a zero c e = omega arith
capped_product-by m a (suc b) c e =
    ⊎_elim (λ (big : m < a). let one = mul-le m 1 a (suc b) (omega arith) (omega arith) in let other = mul-le m 1 c (suc b) (omega arith) (omega arith) in omega arith)
    (λ (few : a ≤ m). ap (λ k. min m (k * suc b)) (omega arith))
    (cases_lt m a)

-- a factor may be counted up to the same number
pub capped_product : (m a b : ℕ) → min m (min m a * b) ≡ min m (a * b)
capped_product m a b = capped_product-by m a b (min m a) refl

pub capped_second : (m a b : ℕ) → min m (a * min m b) ≡ min m (a * b)
capped_second m a b = ap (min m) (mul_comm a (min m b)) ∙ capped_product m b a ∙ ap (min m) (mul_comm b a)

one_factor : (m n b r : ℕ) → min m (min m (n * min m b) * r) ≡ min m (n * (b * r))
one_factor m n b r = ap (λ k. min m (k * r)) (capped_second m n b) ∙ capped_product m (n * b) r ∙ ap (min m) (mul_assoc n b r)

-- a dimension more
pub next_factor : (m n b p q r rest : ℕ) → m < 2 ^ 64 → p ≡ min m b → q ≡ min (n * p) (2 ^ 64 - 1) → r ≡ min m q → min m (r * rest) ≡ min m (n * (b * rest))
next_factor m n b p q r rest fits e f g =
    let same : r ≡ min m (n * p) = omega arith in
    rw (same, e) (one_factor m n b rest)

pub next_elements : (m n p q r : ℕ) (bounds : List (ℤ × ℤ)) (i : ℕ) (d : ℤ × ℤ) → i < length bounds → m < 2 ^ 64
    → p ≡ min m (between (get_or bounds i d).0 (get_or bounds i d).1) → q ≡ min (n * p) (2 ^ 64 - 1) → r ≡ min m q
    → min m (r * elements_of (drop (i + 1) bounds)) ≡ min m (n * elements_of (drop i bounds))
next_elements m n p q r bounds i d lt fits e f g =
    next_factor m n _ p q r (elements_of (drop (i + 1) bounds)) fits e f g ∙ ap (λ bs. min m (n * elements_of bs)) (sym (drop_more bounds i d lt))

pub next_seen : (m n p q r : ℕ) (dims : List Dim) (i : ℕ) (d : Dim) → i < length dims → m < 2 ^ 64
    → p ≡ min m (between (get_or dims i d).lower (get_or dims i d).upper) → q ≡ min (n * p) (2 ^ 64 - 1) → r ≡ min m q
    → min m (r * elements_of (bounds_of (drop (i + 1) dims))) ≡ min m (n * elements_of (bounds_of (drop i dims)))
next_seen m n p q r dims i d lt fits e f g =
    next_factor m n _ p q r (elements_of (bounds_of (drop (i + 1) dims))) fits e f g ∙ ap (λ ds. min m (n * elements_of (bounds_of ds))) (sym (drop_more dims i d lt))

-- ---- strides

one_stride : (x b s p : ℕ) → s ≤ most_cells → s ≡ x * b → (b ≡ 0 → x ≡ 0) → p ≡ max (min (most_cells + 1) b) 1 → s ≡ x * p
one_stride zero b s p few e none q = omega arith
one_stride (suc k) zero s p few e none q = absurd (let no : suc k ≡ 0 = none refl in omega arith)
one_stride (suc k) (suc b) s p few e none q =
    let least = mul-le 1 (suc b) (suc k) (suc b) (omega arith) (omega arith) in
    let same : p ≡ suc b = omega arith in
    rw same e

pub next_stride : (w b r s p : ℕ) → s ≤ most_cells → s ≡ w * (b * r) → (b * r ≡ 0 → w ≡ 0) → p ≡ max (min (most_cells + 1) b) 1 → s / p ≡ w * r
next_stride w b r s p few e none q =
    let product : w * (b * r) ≡ w * r * b = ap (λ n. w * n) (mul_comm b r) ∙ sym (mul_assoc w r b) in
    let no : b ≡ 0 → w * r ≡ 0 = λ z. let gone : w ≡ 0 = none (rw z (zero-mul r)) in rw gone (zero-mul r) in
    div-eq_of_eq-mul_left (omega arith) (one_stride (w * r) b s p few (e ∙ product) no q)

pub none_left : (b r w : ℕ) → (b * r ≡ 0 → w ≡ 0) → r ≡ 0 → w ≡ 0
none_left b r w none e = none (rw e (mul-zero b))

pub strides_more : (w : ℕ) (dims new : List Dim) (b : ℤ × ℤ) (rest : List (ℤ × ℤ)) (all : List Dim) (d : Dim) → new ≡ dims ++ d ∷ []
    → d ≡ record { lower = b.0; upper = b.1; stride = w * elements_of rest } → dims ++ strides w (b ∷ rest) ≡ all → new ++ strides w rest ≡ all
strides_more w dims new b rest all d e f g = rw (e, f) (append_assoc dims _ (strides w rest) ∙ g)
