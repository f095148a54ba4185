-- Parts of lists, as slices of the code give them.
use Rattle.std.proofs.Common.{◌≡◌, ℕ, zero, suc, ◌+◌, ◌-◌, ◌<◌, ◌≤◌, List, [], ◌∷◌, length, take, drop, get_or, ap, refl, arith, length-drop, add-one}
use Rattle.std.proofs.Math.Seq.{drop-cons}

pub take_past : (n : ℕ) (xs : List ℕ) → length xs ≤ n → take n xs ≡ xs
take_past zero [] h = refl
take_past zero (x ∷ xs) h = absurd (omega arith)
take_past (suc n) [] h = refl
take_past (suc n) (x ∷ xs) h = ap (λ l. x ∷ l) (take_past n xs (omega arith))

-- what `&xs[i..]` is
pub slice_from : (i : ℕ) (xs : List ℕ) → take (length xs - i) (drop i xs) ≡ drop i xs
slice_from i xs = take_past _ _ (omega (arith, length-drop i xs))

-- the rest from a place on is the item there and the rest behind it
pub rest_at : (xs : List ℕ) (i : ℕ) → i < length xs → drop i xs ≡ get_or xs i 0 ∷ drop (i + 1) xs
rest_at xs i h = rw (add-one, drop-cons xs i 0) refl
