-- Lists whose elements are related one by one.
use Rattle.std.proofs.Common.{◌≡◌, ◌<◌, ◌≤◌, ◌+◌, ℕ, zero, suc, List, [], ◌∷◌, length, refl, sym, ap, ◌∙◌, arith, Some, slice_get, true, false, ⊎_elim}
use Rattle.std.specs.Prelude.{◌↔◌, IsTrue, map, slice_index_or}
use Rattle.std.proofs.lemmas.Bool.{false≢true}
use Rattle.std.proofs.lemmas.Bool.Decides.{eqb_tells}
use Rattle.a68_identify.specs.Pairs.{Pairwise, none_left, one_more}
use Rattle.a68_ranges.proofs.Taking.{is_there, some_one}

module _ {A B : Type 0} (R : A → B → Type 0) where
  pub pairs_long : {xs : List A} {ys : List B} → Pairwise R xs ys → length xs ≡ length ys
  pairs_long none_left = refl
  pairs_long (one_more r rest) = ap suc (pairs_long rest)

  pub pairs_each : {xs : List A} {ys : List B} → Pairwise R xs ys → (i : ℕ) (x : A) (y : B) → slice_get xs i ≡ Some x → slice_get ys i ≡ Some y → R x y
  pairs_each none_left i x y p q = absurd (cc)
  pairs_each (one_more {x = a} {y = b} r rest) zero x y p q =
      let e : a ≡ x = some_one p in
      let f : b ≡ y = some_one q in
      rw (← e, ← f) r
  pairs_each (one_more r rest) (suc i) x y p q = pairs_each rest i x y p q

  pub pairs_all : (xs : List A) (ys : List B) → length xs ≡ length ys → ((i : ℕ) (x : A) (y : B) → slice_get xs i ≡ Some x → slice_get ys i ≡ Some y → R x y) → Pairwise R xs ys
  pairs_all [] [] long each = none_left
  pairs_all [] (y ∷ ys) long each = absurd (omega arith)
  pairs_all (x ∷ xs) [] long each = absurd (omega arith)
  pairs_all (x ∷ xs) (y ∷ ys) long each = one_more (each 0 x y refl refl) (pairs_all xs ys (omega arith) (λ i a b p q. each (suc i) a b p q))

  -- ---- what a loop over both lists tells

  pub no_pairs : (xs : List A) (ys : List B) → (length xs ≡ length ys → ⊥) → IsTrue false ↔ Pairwise R xs ys
  no_pairs xs ys other = (λ t. absurd (false≢true t), λ p. absurd (other (pairs_long p)))

  pub no_pair : (xs : List A) (ys : List B) (i : ℕ) (x : A) (y : B) → slice_get xs i ≡ Some x → slice_get ys i ≡ Some y → (R x y → ⊥) → IsTrue false ↔ Pairwise R xs ys
  no_pair xs ys i x y p q other = (λ t. absurd (false≢true t), λ pairs. absurd (other (pairs_each pairs i x y p q)))

  -- the pairs before a place are related
  abbrev pub AreBefore : List A → List B → ℕ → Type 0
  AreBefore xs ys i = (k : ℕ) → k < i → (x : A) (y : B) → slice_get xs k ≡ Some x → slice_get ys k ≡ Some y → R x y

  pub one_pair_more : (xs : List A) (ys : List B) (i : ℕ) (x : A) (y : B) → slice_get xs i ≡ Some x → slice_get ys i ≡ Some y → R x y → AreBefore xs ys i → AreBefore xs ys (i + 1)
  one_pair_more xs ys i x y p q r before k lt a b f g = ⊎_elim
      (λ e.
      let one : x ≡ a = some_one (sym p ∙ ap (slice_get xs) (sym e.1) ∙ f) in
      let other : y ≡ b = some_one (sym q ∙ ap (slice_get ys) (sym e.1) ∙ g) in
      rw (← one, ← other) r)
      (λ e. let d = e.1 in before k (omega arith) a b f g)
      (eqb_tells k i)

  pub all_pairs : (xs : List A) (ys : List B) (i : ℕ) → length xs ≡ length ys → length xs ≤ i → AreBefore xs ys i → IsTrue true ↔ Pairwise R xs ys
  all_pairs xs ys i long all before = (λ t. pairs_all xs ys long (λ k x y p q. let l = is_there xs k x p in before k (omega arith) x y p q), λ p. refl)

-- what is read of a list whose elements are taken apart
pub mapped : {A B : Type 0} (f : A → B) (xs : List A) (i : ℕ) (d : A) → i < length xs → slice_get (map f xs) i ≡ Some (f (slice_index_or xs i d))
mapped f [] i d h = absurd (omega arith)
mapped f (x ∷ xs) zero d h = refl
mapped f (x ∷ xs) (suc i) d h = mapped f xs i d (omega arith)

pub length_of_map : {A B : Type 0} (f : A → B) (xs : List A) → length (map f xs) ≡ length xs
length_of_map f [] = refl
length_of_map f (x ∷ xs) = ap suc (length_of_map f xs)
