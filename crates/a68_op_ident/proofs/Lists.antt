-- Lists, and what holds of all their elements.
use Rattle.a68_op_ident.specs.Formulas.{EachOf}
use Rattle.std.proofs.Common.{◌≡◌, ◌≢◌, ℕ, zero, suc, ◌+◌, ◌-◌, ◌<◌, ◌≤◌, ◌⊎◌, inl, inr, List, [], ◌∷◌, ◌++◌, length, take, drop, refl, ap, arith, add-one, length-drop, Some, slice_get, slice_set}

pub some_same : {X : Type 0} {x y : X} → Some x ≡ Some y → x ≡ y
some_same e = cc

pub less_or_not : (a b : ℕ) → (a < b) ⊎ (b ≤ a)
less_or_not a zero = inr (omega arith)
less_or_not zero (suc b) = inl (omega arith)
less_or_not (suc a) (suc b) = elim (less_or_not a b) [ inl p ↦ inl (omega arith) | inr p ↦ inr (omega arith) ]

pub eq_or_more : (a b : ℕ) → a ≤ b → (a ≡ b) ⊎ (a < b)
eq_or_more a b p = elim (less_or_not a b) [ inl q ↦ inr q | inr q ↦ inl (omega arith) ]

-- the next of some numbers, or one of those before it
pub old_or_new : (i n : ℕ) → i < n + 1 → (i < n) ⊎ (i ≡ n)
old_or_new i n p = elim (less_or_not i n) [ inl q ↦ inl q | inr q ↦ inr (omega arith) ]

take_past : {X : Type 0} (n : ℕ) (xs : List X) → length xs ≤ n → take n xs ≡ xs
take_past zero [] h = refl
take_past zero (x ∷ xs) h = absurd (omega arith)
take_past (suc n) [] h = refl
take_past (suc n) (x ∷ xs) h = ap (λ l. x ∷ l) (take_past n xs (omega arith))

-- what `&xs[i..]` is
pub slice_from : {X : Type 0} (i : ℕ) (xs : List X) → take (length xs - i) (drop i xs) ≡ drop i xs
slice_from i xs = take_past _ _ (omega (arith, length-drop i xs))

split_suc : {X : Type 0} (xs : List X) (i : ℕ) (x : X) → slice_get xs i ≡ Some x → xs ≡ take i xs ++ x ∷ drop (suc i) xs
split_suc [] i x e = absurd (cc)
split_suc (y ∷ ys) zero x e = ap (λ z. z ∷ ys) (some_same e)
split_suc (y ∷ ys) (suc i) x e = ap (λ zs. y ∷ zs) (split_suc ys i x e)

-- the items before one, it, and those behind it
pub split_at : {X : Type 0} (xs : List X) (i : ℕ) (x : X) → slice_get xs i ≡ Some x → xs ≡ take i xs ++ x ∷ drop (i + 1) xs
split_at xs i x e = rw (add-one i) (split_suc xs i x e)

rest_suc : {X : Type 0} (xs : List X) (i : ℕ) (x : X) → slice_get xs i ≡ Some x → drop i xs ≡ x ∷ drop (suc i) xs
rest_suc [] i x e = absurd (cc)
rest_suc (y ∷ ys) zero x e = ap (λ z. z ∷ ys) (some_same e)
rest_suc (y ∷ ys) (suc i) x e = rest_suc ys i x e

-- the rest from a place on is the item there and the rest behind it
pub rest_at : {X : Type 0} (xs : List X) (i : ℕ) (x : X) → slice_get xs i ≡ Some x → drop i xs ≡ x ∷ drop (i + 1) xs
rest_at xs i x e = rw (add-one i) (rest_suc xs i x e)

pub get-set_here : {X : Type 0} (xs : List X) (i : ℕ) (y : X) → i < length xs → slice_get (slice_set xs i y) i ≡ Some y
get-set_here [] i y p = absurd (omega arith)
get-set_here (x ∷ xs) zero y p = refl
get-set_here (x ∷ xs) (suc i) y p = get-set_here xs i y (omega arith)

pub get-set_there : {X : Type 0} (xs : List X) (i j : ℕ) (y : X) → j ≢ i → slice_get (slice_set xs i y) j ≡ slice_get xs j
get-set_there [] i j y p = refl
get-set_there (x ∷ xs) zero zero y p = absurd (p refl)
get-set_there (x ∷ xs) zero (suc j) y p = refl
get-set_there (x ∷ xs) (suc i) zero y p = refl
get-set_there (x ∷ xs) (suc i) (suc j) y p = get-set_there xs i j y (λ e. p (ap suc e))

-- ---- all elements

pub all_left : {X : Type 0} (P : X → Type 0) (xs ys : List X) → EachOf P (xs ++ ys) → EachOf P xs
all_left P [] ys a = tt
all_left P (x ∷ xs) ys a = (a.0, all_left P xs ys a.1)

pub all_right : {X : Type 0} (P : X → Type 0) (xs ys : List X) → EachOf P (xs ++ ys) → EachOf P ys
all_right P [] ys a = a
all_right P (x ∷ xs) ys a = all_right P xs ys a.1

pub all_join : {X : Type 0} (P : X → Type 0) (xs ys : List X) → EachOf P xs → EachOf P ys → EachOf P (xs ++ ys)
all_join P [] ys a b = b
all_join P (x ∷ xs) ys a b = (a.0, all_join P xs ys a.1 b)

pub all_at : {X : Type 0} (P : X → Type 0) (xs : List X) (k : ℕ) (x : X) → EachOf P xs → slice_get xs k ≡ Some x → P x
all_at P [] k x a e = absurd (cc)
all_at P (y ∷ ys) zero x a e = let same : y ≡ x = some_same e in rw (← same) a.0
all_at P (y ∷ ys) (suc k) x a e = all_at P ys k x a.1 e

pub all_before : {X : Type 0} (P : X → Type 0) (xs : List X) (n : ℕ) → ((k : ℕ) (x : X) → k < n → slice_get xs k ≡ Some x → P x) → EachOf P (take n xs)
all_before P xs zero h = tt
all_before P [] (suc n) h = tt
all_before P (x ∷ xs) (suc n) h = (h 0 x (omega arith) refl, all_before P xs n (λ k y p e. h (suc k) y (omega arith) e))

pub all_from : {X : Type 0} (P : X → Type 0) (xs : List X) (n : ℕ) → ((k : ℕ) (x : X) → n ≤ k → slice_get xs k ≡ Some x → P x) → EachOf P (drop n xs)
all_from P [] zero h = tt
all_from P (x ∷ xs) zero h = (h 0 x (omega arith) refl, all_from P xs zero (λ k y p e. h (suc k) y (omega arith) e))
all_from P [] (suc n) h = tt
all_from P (x ∷ xs) (suc n) h = all_from P xs n (λ k y p e. h (suc k) y (omega arith) e)
