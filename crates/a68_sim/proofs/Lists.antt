-- Facts on lists by place, and on numbers that are the same.
use Rattle.std.proofs.Common.{◌≡◌, ◌≢◌, ◌⊎◌, ℕ, zero, suc, ◌+◌, ◌≤◌, ◌<◌, arith, List, [], ◌∷◌, ◌++◌, length, map, Some, refl, ap, ◌∙◌, subst, inl, inr, ⊎_elim, eq-eqb}
use Rattle.std.specs.Prelude.{slice_get, slice_set, nat_eq, if◌then◌else◌}
use Rattle.std.proofs.lemmas.Bool.{cases_eq}
use Rattle.std.proofs.lemmas.Bool.Decides.{eqb_tells}
use Rattle.std.proofs.lemmas.Option.{same_Some}

-- 1 where two numbers are the same
abbrev pub same : ℕ → ℕ → ℕ
same s y = if nat_eq s y then 1 else 0

pub same_self : (s : ℕ) → same s s ≡ 1
same_self s = ap (λ b. if b then 1 else 0) (eq-eqb s s refl)

pub same_other : (s y : ℕ) → s ≢ y → same s y ≡ 0
same_other s y ne = ⊎_elim (λ h. absurd (ne h.1)) (λ h. ap (λ b. if b then 1 else 0) h.0) (eqb_tells s y)

pub same_most : (s y : ℕ) → same s y ≤ 1
same_most s y =
    ⊎_elim
    (λ e. let h : same s y ≡ 1 = subst (λ z. same s z ≡ 1) e (same_self s) in omega arith)
    (λ ne. let h : same s y ≡ 0 = same_other s y ne in omega arith)
    (cases_eq s y)

pub same_is : (s y : ℕ) → 0 < same s y → s ≡ y
same_is s y less = ⊎_elim (λ e. e) (λ ne. let h : same s y ≡ 0 = same_other s y ne in absurd (omega arith)) (cases_eq s y)

pub get_set_same : {A : Type 0} (xs : List A) (x : ℕ) (old v : A) → slice_get xs x ≡ Some old → slice_get (slice_set xs x v) x ≡ Some v
get_set_same [] x old v e = absurd (cc)
get_set_same (y ∷ xs) zero old v e = refl
get_set_same (y ∷ xs) (suc x) old v e = get_set_same xs x old v e

pub get_set_other : {A : Type 0} (xs : List A) (x s : ℕ) (v : A) → s ≢ x → slice_get (slice_set xs x v) s ≡ slice_get xs s
get_set_other [] x s v ne = refl
get_set_other (y ∷ xs) zero zero v ne = absurd (ne refl)
get_set_other (y ∷ xs) zero (suc s) v ne = refl
get_set_other (y ∷ xs) (suc x) zero v ne = refl
get_set_other (y ∷ xs) (suc x) (suc s) v ne = get_set_other xs x s v (λ e. ne (ap (λ n. suc n) e))

pub length_set : {A : Type 0} (xs : List A) (x : ℕ) (v : A) → length (slice_set xs x v) ≡ length xs
length_set [] x v = refl
length_set (y ∷ xs) zero v = refl
length_set (y ∷ xs) (suc x) v = ap (λ n. suc n) (length_set xs x v)

pub length_both : {A : Type 0} (xs ys : List A) → length (xs ++ ys) ≡ length xs + length ys
length_both [] ys = omega arith
length_both (x ∷ xs) ys = let e = length_both xs ys in omega arith

pub get_front : {A : Type 0} (xs ys : List A) (s : ℕ) (v : A) → slice_get xs s ≡ Some v → slice_get (xs ++ ys) s ≡ Some v
get_front [] ys s v e = absurd (cc)
get_front (x ∷ xs) ys zero v e = e
get_front (x ∷ xs) ys (suc s) v e = get_front xs ys s v e

pub get_back : {A : Type 0} (xs ys : List A) (s : ℕ) → slice_get (xs ++ ys) (length xs + s) ≡ slice_get ys s
get_back [] ys s = let e : 0 + s ≡ s = omega arith in ap (slice_get ys) e
get_back (x ∷ xs) ys s =
    let e : length (x ∷ xs) + s ≡ suc (length xs + s) = omega arith in
    ap (slice_get (x ∷ (xs ++ ys))) e ∙ get_back xs ys s

-- what is in two lists is in the first one, or behind it in the second one
pub get_either : {A : Type 0} (xs ys : List A) (s : ℕ) (v : A) → slice_get (xs ++ ys) s ≡ Some v
    → (slice_get xs s ≡ Some v) ⊎ ((j : ℕ) × (s ≡ length xs + j) × (slice_get ys j ≡ Some v))
get_either [] ys s v e = inr (s, omega arith, e)
get_either (x ∷ xs) ys zero v e = inl e
get_either (x ∷ xs) ys (suc s) v e =
    ⊎_elim (λ h. inl h) (λ h. let q = h.1 in inr (h.0, omega arith, h.2)) (get_either xs ys s v e)

pub get_less : {A : Type 0} (xs : List A) (s : ℕ) (v : A) → slice_get xs s ≡ Some v → s < length xs
get_less [] s v e = absurd (cc)
get_less (x ∷ xs) zero v e = omega arith
get_less (x ∷ xs) (suc s) v e = let h = get_less xs s v e in omega arith

pub get_map : {A B : Type 0} (f : A → B) (xs : List A) (s : ℕ) (v : A) → slice_get xs s ≡ Some v → slice_get (map f xs) s ≡ Some (f v)
get_map f [] s v e = absurd (cc)
get_map f (x ∷ xs) zero v e = let q : x ≡ v = same_Some x v e in ap (λ y. Some (f y)) q
get_map f (x ∷ xs) (suc s) v e = get_map f xs s v e

pub was_there : {A B : Type 0} (f : A → B) (xs : List A) (s : ℕ) (v : B) → slice_get (map f xs) s ≡ Some v → (y : A) × (slice_get xs s ≡ Some y) × (f y ≡ v)
was_there f [] s v e = absurd (cc)
was_there f (y ∷ xs) zero v e = (y, refl, cc)
was_there f (y ∷ xs) (suc s) v e = was_there f xs s v e
