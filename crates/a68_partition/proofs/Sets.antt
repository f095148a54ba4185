-- Rising lists are equal where they have the same elements.
use Rattle.std.proofs.Common.{◌≡◌, ◌<◌, ◌⊎◌, ℕ, zero, suc, List, [], ◌∷◌, length, get_or, refl, sym, arith, inl, inr}
use Rattle.std.specs.List.{Contains, AllPairs}

head_or_tail_at : (x : ℕ) (xs : List ℕ) (z k : ℕ) → k < length (x ∷ xs) → get_or (x ∷ xs) k z ≡ z → (x ≡ z) ⊎ Contains xs z
head_or_tail_at x xs z zero h e = inl e
head_or_tail_at x xs z (suc k) h e = inr (k, omega arith, e)

head_or_tail : (x : ℕ) (xs : List ℕ) (z : ℕ) → Contains (x ∷ xs) z → (x ≡ z) ⊎ Contains xs z
head_or_tail x xs z i = head_or_tail_at x xs z i.0 i.1 i.2

pub in_tail : (x : ℕ) (xs : List ℕ) (z : ℕ) → Contains xs z → Contains (x ∷ xs) z
in_tail x xs z i = (suc i.0, omega arith, i.2)

pub at_head : (x : ℕ) (xs : List ℕ) → Contains (x ∷ xs) x
at_head x xs = (0, omega arith, refl)

above_head : (x : ℕ) (xs : List ℕ) (z : ℕ) → AllPairs (λ a b. a < b) (x ∷ xs) → Contains xs z → x < z
above_head x xs z up i =
    let lt = up 0 (suc i.0) z (omega arith) (omega arith) in
    let same = i.2 in
    rw i.2 at lt

tail_rises : (x : ℕ) (xs : List ℕ) → AllPairs (λ a b. a < b) (x ∷ xs) → AllPairs (λ a b. a < b) xs
tail_rises x xs up = λ i j d lt below. up (suc i) (suc j) d (omega arith) (omega arith)

same_head : (x y : ℕ) (xs ys : List ℕ) → AllPairs (λ a b. a < b) (x ∷ xs) → AllPairs (λ a b. a < b) (y ∷ ys) → (y ≡ x) ⊎ Contains ys x → (x ≡ y) ⊎ Contains xs y → x ≡ y
same_head x y xs ys up vp (inl e) h = sym e
same_head x y xs ys up vp (inr i) (inl e) = e
same_head x y xs ys up vp (inr i) (inr j) =
    let a = above_head x xs y up j in
    let b = above_head y ys x vp i in
    absurd (omega arith)

keep_tail : (x y : ℕ) (xs ys : List ℕ) (z : ℕ) → x ≡ y → AllPairs (λ a b. a < b) (x ∷ xs) → Contains xs z → (y ≡ z) ⊎ Contains ys z → Contains ys z
keep_tail x y xs ys z e up i (inl f) = let lt = above_head x xs z up i in absurd (omega arith)
keep_tail x y xs ys z e up i (inr j) = j

none : (z : ℕ) → Contains [] z → ⊥
none z i = let h = i.1 in omega arith

pub rising_same : (xs ys : List ℕ) → AllPairs (λ a b. a < b) xs → AllPairs (λ a b. a < b) ys → ((z : ℕ) → Contains xs z → Contains ys z) → ((z : ℕ) → Contains ys z → Contains xs z) → xs ≡ ys
rising_same [] [] up vp f g = refl
rising_same [] (y ∷ ys) up vp f g = absurd (none y (g y (at_head y ys)))
rising_same (x ∷ xs) [] up vp f g = absurd (none x (f x (at_head x xs)))
rising_same (x ∷ xs) (y ∷ ys) up vp f g =
    let e = same_head x y xs ys up vp (head_or_tail y ys x (f x (at_head x xs))) (head_or_tail x xs y (g y (at_head y ys))) in
    let rest = rising_same xs ys (tail_rises x xs up) (tail_rises y ys vp)
    (λ z i. keep_tail x y xs ys z e up i (head_or_tail y ys z (f z (in_tail x xs z i))))
    (λ z i. keep_tail y x ys xs z (sym e) vp i (head_or_tail x xs z (g z (in_tail y ys z i)))) in
    cc
