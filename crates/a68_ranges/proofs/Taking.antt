-- Lists one longer.
use Rattle.std.proofs.Common.{◌≡◌, ◌≢◌, ◌<◌, ◌≤◌, ◌⊎◌, inl, inr, ⊎_elim, ℕ, zero, suc, ◌+◌, List, [], ◌∷◌, ◌++◌, length, take, refl, sym, ap, ◌∙◌, arith, add-one, Some, None, slice_get, slice_set}
use Rattle.std.specs.Prelude.{map, slice_index_or}
use Rattle.std.proofs.lemmas.List.{map-append}

pub some_one : {X : Type 0} {x y : X} → Some x ≡ Some y → x ≡ y
some_one e = cc

-- the first elements and the next one
pub take_next : {X : Type 0} (xs : List X) (i : ℕ) (x : X) → slice_get xs i ≡ Some x → take (i + 1) xs ≡ take i xs ++ x ∷ []
take_next [] i x e = absurd (cc)
take_next (y ∷ ys) zero x e = ap (λ z. z ∷ []) (some_one e)
take_next (y ∷ ys) (suc i) x e = rw add-one (ap (λ zs. y ∷ zs) (ap (λ k. take k ys) (sym (add-one i)) ∙ take_next ys i x e))

pub map_more : {X Y : Type 0} (f : X → Y) (xs : List X) (i : ℕ) (x : X) → slice_get xs i ≡ Some x → map f (take (i + 1) xs) ≡ map f (take i xs) ++ f x ∷ []
map_more f xs i x e = ap (map f) (take_next xs i x e) ∙ map-append f (take i xs) (x ∷ [])

-- what is read is there
pub is_there : {X : Type 0} (xs : List X) (k : ℕ) (x : X) → slice_get xs k ≡ Some x → k < length xs
is_there [] k x e = absurd (cc)
is_there (y ∷ ys) zero x e = omega arith
is_there (y ∷ ys) (suc k) x e = let h = is_there ys k x e in omega arith

-- what is there is read
pub read : {X : Type 0} (xs : List X) (k : ℕ) (d : X) → k < length xs → slice_get xs k ≡ Some (slice_index_or xs k d)
read [] k d h = absurd (omega arith)
read (y ∷ ys) zero d h = refl
read (y ∷ ys) (suc k) d h = read ys k d (omega arith)

pub get-set_here : {X : Type 0} (xs : List X) (i : ℕ) (y : X) → i < length xs → slice_get (slice_set xs i y) i ≡ Some y
get-set_here [] i y p = absurd (omega arith)
get-set_here (x ∷ xs) zero y p = refl
get-set_here (x ∷ xs) (suc i) y p = get-set_here xs i y (omega arith)

pub get-set_there : {X : Type 0} (xs : List X) (i j : ℕ) (y : X) → j ≢ i → slice_get (slice_set xs i y) j ≡ slice_get xs j
get-set_there [] i j y p = refl
get-set_there (x ∷ xs) zero zero y p = absurd (p refl)
get-set_there (x ∷ xs) zero (suc j) y p = refl
get-set_there (x ∷ xs) (suc i) zero y p = refl
get-set_there (x ∷ xs) (suc i) (suc j) y p = get-set_there xs i j y (λ e. p (ap suc e))

-- what is past the end is not read
pub past : {X : Type 0} (xs : List X) (k : ℕ) → length xs ≤ k → slice_get xs k ≡ None
past [] k h = refl
past (y ∷ ys) zero h = absurd (omega arith)
past (y ∷ ys) (suc k) h = past ys k (omega arith)

pub below_or : (k n : ℕ) → (k < n) ⊎ (n ≤ k)
below_or k zero = inr (omega arith)
below_or zero (suc n) = inl (omega arith)
below_or (suc k) (suc n) = ⊎_elim (λ h. inl (omega arith)) (λ h. inr (omega arith)) (below_or k n)

pub read_is : {X : Type 0} (xs : List X) (k : ℕ) (x d : X) → k < length xs → x ≡ slice_index_or xs k d → slice_get xs k ≡ Some x
read_is xs k x d h e = read xs k d h ∙ ap Some (sym e)
