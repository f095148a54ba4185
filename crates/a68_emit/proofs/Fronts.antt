-- Elements of a list that is joined of two.
use Rattle.std.proofs.Common.{◌≡◌, ℕ, zero, suc, ◌+◌, List, [], ◌∷◌, ◌++◌, length, refl, arith, Some, slice_get}

pub get-front : {X : Type 0} (xs ys : List X) (k : ℕ) (x : X) → slice_get xs k ≡ Some x → slice_get (xs ++ ys) k ≡ Some x
get-front [] ys k x p = absurd (cc)
get-front (z ∷ xs) ys zero x p = p
get-front (z ∷ xs) ys (suc k) x p = get-front xs ys k x p

pub get-behind : {X : Type 0} (xs ys : List X) (k : ℕ) → slice_get (xs ++ ys) (length xs + k) ≡ slice_get ys k
get-behind [] ys k = let e : 0 + k ≡ k = omega arith in rw e refl
get-behind (z ∷ xs) ys k = let e : suc (length xs) + k ≡ suc (length xs + k) = omega arith in rw e (get-behind xs ys k)
