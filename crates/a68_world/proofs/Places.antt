-- Lists by place.
use Rattle.std.proofs.Common.{◌≡◌, ◌⊎◌, inl, inr, ℕ, zero, suc, ◌+◌, ◌<◌, ◌≤◌, List, [], ◌∷◌, ◌++◌, length, map, refl, ap, sym, ◌∙◌, arith}
use Rattle.std.specs.Prelude.{None, Some, slice_get, slice_set}

module _ {A B : Type 0} (f : A → B) where
  pub get_mapped : (xs : List A) (k : ℕ) (y : B) → slice_get (map f xs) k ≡ Some y → (x : A) × (slice_get xs k ≡ Some x) × (f x ≡ y)
  get_mapped [] k y e = absurd (cc)
  get_mapped (x ∷ xs) zero y e = (x, refl, cc)
  get_mapped (x ∷ xs) (suc k) y e = get_mapped xs k y e

  pub get_map : (xs : List A) (k : ℕ) (x : A) → slice_get xs k ≡ Some x → slice_get (map f xs) k ≡ Some (f x)
  get_map [] k x e = absurd (cc)
  get_map (y ∷ xs) zero x e = let same : y ≡ x = cc in ap (λ z. Some (f z)) same
  get_map (y ∷ xs) (suc k) x e = get_map xs k x e

  pub get_map_none : (xs : List A) (k : ℕ) → slice_get xs k ≡ None → slice_get (map f xs) k ≡ None
  get_map_none [] k e = refl
  get_map_none (x ∷ xs) zero e = absurd (cc)
  get_map_none (x ∷ xs) (suc k) e = get_map_none xs k e

  pub length_map : (xs : List A) → length (map f xs) ≡ length xs
  length_map [] = refl
  length_map (x ∷ xs) = let more = length_map xs in omega (arith, more)

module _ {A : Type 0} where
  pub get_front : (xs ys : List A) (k : ℕ) (z : A) → slice_get xs k ≡ Some z → slice_get (xs ++ ys) k ≡ Some z
  get_front [] ys k z e = absurd (cc)
  get_front (x ∷ xs) ys zero z e = e
  get_front (x ∷ xs) ys (suc k) z e = get_front xs ys k z e

  pub get_behind : (xs ys : List A) (i : ℕ) → slice_get (xs ++ ys) (length xs + i) ≡ slice_get ys i
  get_behind [] ys i = let none : 0 + i ≡ i = omega arith in ap (slice_get ys) none
  get_behind (x ∷ xs) ys i = let next : suc (length xs) + i ≡ suc (length xs + i) = omega arith in ap (slice_get (x ∷ (xs ++ ys))) next ∙ get_behind xs ys i

  -- an element of two lists joined stands in the first or in the second
  pub parted : (xs ys : List A) (k : ℕ) (z : A) → slice_get (xs ++ ys) k ≡ Some z → (slice_get xs k ≡ Some z) ⊎ ((i : ℕ) × (k ≡ length xs + i) × (slice_get ys i ≡ Some z))
  parted [] ys k z e = inr (k, omega arith, e)
  parted (x ∷ xs) ys zero z e = inl e
  parted (x ∷ xs) ys (suc k) z e = elim (parted xs ys k z e) [ inl p ↦ inl p | inr q ↦ inr (q.0, omega (arith, q.1), q.2) ]

  pub get_other : (xs : List A) (n k : ℕ) (y z : A) → (k ≡ n → ⊥) → slice_get xs k ≡ Some z → slice_get (slice_set xs n y) k ≡ Some z
  get_other [] n k y z ne e = e
  get_other (x ∷ xs) zero zero y z ne e = absurd (ne refl)
  get_other (x ∷ xs) zero (suc k) y z ne e = e
  get_other (x ∷ xs) (suc n) zero y z ne e = e
  get_other (x ∷ xs) (suc n) (suc k) y z ne e = get_other xs n k y z (λ s. ne (ap suc s)) e

  -- behind a write an element is the one written, or another that was there
  pub set_parted : (xs : List A) (n k : ℕ) (y z : A) → slice_get (slice_set xs n y) k ≡ Some z → ((k ≡ n) × (z ≡ y)) ⊎ ((k ≡ n → ⊥) × (slice_get xs k ≡ Some z))
  set_parted [] n k y z e = absurd (cc)
  set_parted (x ∷ xs) zero zero y z e = inl (refl, cc)
  set_parted (x ∷ xs) zero (suc k) y z e = inr (λ s. absurd (cc), e)
  set_parted (x ∷ xs) (suc n) zero y z e = inr (λ s. absurd (cc), e)
  set_parted (x ∷ xs) (suc n) (suc k) y z e =
      elim (set_parted xs n k y z e) [ inl p ↦ inl (ap suc p.0, p.1) | inr q ↦ inr (λ s. q.0 (omega (arith, s)), q.1) ]

  pub set_again : (xs : List A) (n : ℕ) (x : A) → slice_get xs n ≡ Some x → slice_set xs n x ≡ xs
  set_again [] n x e = refl
  set_again (y ∷ xs) zero x e = let same : y ≡ x = cc in ap (λ (z : A). z ∷ xs) (sym same)
  set_again (y ∷ xs) (suc n) x e = ap (λ (zs : List A). y ∷ zs) (set_again xs n x e)

  pub set_same : (xs : List A) (n : ℕ) (x y : A) → slice_get xs n ≡ Some x → slice_get (slice_set xs n y) n ≡ Some y
  set_same [] n x y e = absurd (cc)
  set_same (z ∷ xs) zero x y e = refl
  set_same (z ∷ xs) (suc n) x y e = set_same xs n x y e

  pub is_there : (xs : List A) (k : ℕ) → k < length xs → (x : A) × (slice_get xs k ≡ Some x)
  is_there [] k h = absurd (omega arith)
  is_there (x ∷ xs) zero h = (x, refl)
  is_there (x ∷ xs) (suc k) h = is_there xs k (omega arith)

  pub is_within : (xs : List A) (k : ℕ) (x : A) → slice_get xs k ≡ Some x → k < length xs
  is_within [] k x e = absurd (cc)
  is_within (y ∷ xs) zero x e = omega arith
  is_within (y ∷ xs) (suc k) x e = let more = is_within xs k x e in omega (arith, more)

  pub is_beyond : (xs : List A) (k : ℕ) → length xs ≤ k → slice_get xs k ≡ None
  is_beyond [] k h = refl
  is_beyond (x ∷ xs) zero h = absurd (omega (arith, h))
  is_beyond (x ∷ xs) (suc k) h = is_beyond xs k (omega (arith, h))

  pub get_one : (xs : List A) (k : ℕ) (x y : A) → slice_get xs k ≡ Some x → slice_get xs k ≡ Some y → x ≡ y
  get_one xs k x y e f = cc

  pub set_twice : (xs : List A) (n : ℕ) (x y : A) → slice_set (slice_set xs n x) n y ≡ slice_set xs n y
  set_twice [] n x y = refl
  set_twice (z ∷ xs) zero x y = refl
  set_twice (z ∷ xs) (suc n) x y = ap (λ (l : List A). z ∷ l) (set_twice xs n x y)

module _ {A B : Type 0} (f : A → B) where
  pub map_set : (xs : List A) (n : ℕ) (x : A) → map f (slice_set xs n x) ≡ slice_set (map f xs) n (f x)
  map_set [] n x = refl
  map_set (y ∷ xs) zero x = refl
  map_set (y ∷ xs) (suc n) x = ap (λ (l : List B). f y ∷ l) (map_set xs n x)

-- ---- numbers

pub below_or_not : (k i : ℕ) → (k < i) ⊎ (i ≤ k)
below_or_not zero zero = inr (omega arith)
below_or_not zero (suc i) = inl (omega arith)
below_or_not (suc k) zero = inr (omega arith)
below_or_not (suc k) (suc i) = elim (below_or_not k i) [ inl p ↦ inl (omega (arith, p)) | inr p ↦ inr (omega (arith, p)) ]
