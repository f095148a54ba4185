-- The first of a list for which something holds.
use Rattle.std.proofs.lemmas.Bool.Decides.{eqb_tells}
use Rattle.std.proofs.Common.{◌≡◌, ◌<◌, ◌+◌, ⊎_elim, ℕ, zero, suc, List, [], ◌∷◌, length, refl, sym, ap, ◌∙◌, arith, subst, Some, slice_get}
use Rattle.std.specs.List.{Contains}
use Rattle.a68_identify.specs.Identified.{FirstThatHolds, first_here, first_later, NoneHolds}
use Rattle.a68_ranges.proofs.Taking.{some_one, read}

module _ {A : Type 0} (Holds : A → Type 0) where
  -- none holds before a place
  abbrev pub NoneBefore : List A → ℕ → Type 0
  NoneBefore xs i = (k : ℕ) (y : A) → k < i → slice_get xs k ≡ Some y → Holds y → ⊥

  pub first_at : (xs : List A) (i : ℕ) (x : A) → slice_get xs i ≡ Some x → Holds x → NoneBefore xs i → FirstThatHolds Holds xs x
  first_at [] i x is h none = absurd (cc)
  first_at (y ∷ ys) zero x is h none =
      let e : y ≡ x = some_one is in
      rw e (first_here h)
  first_at (y ∷ ys) (suc i) x is h none = first_later (none 0 y (omega arith) refl) (first_at ys i x is h (λ k z lt at. none (suc k) z (omega arith) at))

  pub none_in : (xs : List A) (i : ℕ) → i ≡ length xs → NoneBefore xs i → NoneHolds Holds xs
  none_in xs i all none = λ x among h. none among.0 x (let l = among.1 in omega arith) (read xs among.0 x among.1 ∙ ap (λ y. Some y) among.2) h

  pub first_among : {xs : List A} {x : A} → FirstThatHolds Holds xs x → Contains xs x
  first_among (first_here h) = (0, omega arith, refl)
  first_among (first_later no' rest) = let c = first_among rest in (suc c.0, (let l = c.1 in omega arith), c.2)

  pub first_holds : {xs : List A} {x : A} → FirstThatHolds Holds xs x → Holds x
  first_holds (first_here h) = h
  first_holds (first_later no' rest) = first_holds rest

  pub first_one : {xs ys : List A} {x y : A} → FirstThatHolds Holds xs x → FirstThatHolds Holds ys y → xs ≡ ys → x ≡ y
  first_one (first_here {x = a} h) (first_here {x = b} g) e = cc
  first_one (first_here {x = a} h) (first_later {x = b} no' rest) e =
      let same : a ≡ b = cc in
      absurd (no' (subst Holds same h))
  first_one (first_later {x = a} no' rest) (first_here {x = b} h) e =
      let same : b ≡ a = cc in
      absurd (no' (subst Holds same h))
  first_one (first_later {xs = xs} no' rest) (first_later {xs = ys} other more) e =
      let same : xs ≡ ys = cc in
      first_one rest more same

  pub none_more : (xs : List A) (i : ℕ) (x : A) → slice_get xs i ≡ Some x → (Holds x → ⊥) → NoneBefore xs i → NoneBefore xs (i + 1)
  none_more xs i x is other none k y lt at h =
      ⊎_elim
      (λ e.
      let same : y ≡ x = some_one (sym at ∙ ap (slice_get xs) e.1 ∙ is) in
      other (subst Holds same h))
      (λ e. let d = e.1 in none k y (omega arith) at h)
      (eqb_tells k i)

-- ---- where the one holds of the elements exactly where the other does

module _ {A : Type 0} (P Q : A → Type 0) where
  pub first_map : {xs : List A} {x : A} → FirstThatHolds P xs x → ((y : A) → Contains xs y → P y → Q y) → ((y : A) → Contains xs y → Q y → P y) → FirstThatHolds Q xs x
  first_map (first_here {x = x} h) on back = first_here (on x (0, omega arith, refl) h)
  first_map (first_later {x = x} no' rest) on back =
      first_later (λ q. no' (back x (0, omega arith, refl) q))
      (first_map rest (λ y c. on y (suc c.0, (let l = c.1 in omega arith), c.2)) (λ y c. back y (suc c.0, (let l = c.1 in omega arith), c.2)))

  pub none_map : (xs : List A) → NoneHolds P xs → ((y : A) → Contains xs y → Q y → P y) → NoneHolds Q xs
  none_map xs none back = λ y c q. none y c (back y c q)
