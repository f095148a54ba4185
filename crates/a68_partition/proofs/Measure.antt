-- Lists of numbers that rise.
use Rattle.std.proofs.Common.{◌≡◌, ◌<◌, ◌≤◌, ◌+◌, ◌*◌, ◌⊎◌, ℕ, suc, List, [], ◌∷◌, length, get_or, refl, arith, inl, inr}
use Rattle.std.proofs.lemmas.Bool.{cases_eq}

abbrev pub total : List ℕ → ℕ
total [] = 0
total (x ∷ xs) = x + total xs

sum_le : (xs ys : List ℕ) → length xs ≡ length ys → ((k : ℕ) → k < length xs → get_or xs k 0 ≤ get_or ys k 0) → total xs ≤ total ys
sum_le [] [] e f = omega arith
sum_le [] (y ∷ ys) e f = omega arith
sum_le (x ∷ xs) [] e f = omega arith
sum_le (x ∷ xs) (y ∷ ys) e f =
    let ih = sum_le xs ys (omega arith) (λ k h. f (suc k) (omega arith)) in
    let h0 = f 0 (omega arith) in
    omega arith

pub sum_less : (xs ys : List ℕ) → length xs ≡ length ys → ((k : ℕ) → k < length xs → get_or xs k 0 ≤ get_or ys k 0) → (ys ≡ xs → ⊥) → total xs < total ys
sum_less [] [] e f ne = absurd (ne refl)
sum_less [] (y ∷ ys) e f ne = omega arith
sum_less (x ∷ xs) [] e f ne = omega arith
sum_less (x ∷ xs) (y ∷ ys) e f ne = go (cases_eq x y)
    (λ g. sum_less xs ys (omega arith) (λ k h. f (suc k) (omega arith)) g)
    (sum_le xs ys (omega arith) (λ k h. f (suc k) (omega arith)))
  where
    go : (x ≡ y) ⊎ (x ≡ y → ⊥) → ((ys ≡ xs → ⊥) → total xs < total ys) → total xs ≤ total ys → total (x ∷ xs) < total (y ∷ ys)
    go (inl same) strict loose = let s = strict (λ g. ne (cc)) in omega arith
    go (inr differ) strict loose = let h0 = f 0 (omega arith) in omega arith

pub sum_below : (xs : List ℕ) (b : ℕ) → ((k : ℕ) → k < length xs → get_or xs k 0 ≤ b) → total xs ≤ length xs * b
sum_below [] b f = omega arith
sum_below (x ∷ xs) b f =
    let ih = sum_below xs b (λ k h. f (suc k) (omega arith)) in
    let h0 = f 0 (omega arith) in
    omega arith
