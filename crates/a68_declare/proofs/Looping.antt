-- No sequence of steps goes on for ever, where no way of steps leads back.
use Rattle.std.proofs.Common.{◌≡◌, ◌<◌, ◌≤◌, ℕ, zero, suc, List, [], ◌∷◌, Bool, true, false, ◌||◌, length, refl, ap, arith, subst, ⊎_elim}
use Rattle.std.specs.List.{AllByRecursion, list_any, IsDistinct}
use Rattle.std.specs.Bool.{nat_eq}
use Rattle.std.proofs.lemmas.Bool.{false_from_ne_true}
use Rattle.std.proofs.lemmas.Map.Steps.{length-le_from_distinct_below}
use Rattle.std.proofs.lemmas.Map.Views.{exact_unsigned_eq}
use Rattle.a68_ranges.proofs.Taking.{below_or}

-- the first so many numbers of a sequence, the last first
abbrev upto : (ℕ → ℕ) → ℕ → List ℕ
upto f zero = []
upto f (suc k) = f k ∷ upto f k

long : (f : ℕ → ℕ) (k : ℕ) → length (upto f k) ≡ k
long f zero = refl
long f (suc k) = ap suc (long f k)

module _ (n : ℕ) (f : ℕ → ℕ) (R : ℕ → ℕ → Type 0) (below : (k : ℕ) → f k < n) (step : (k : ℕ) → R (f k) (f (suc k)))
    (join : (a b c : ℕ) → R a b → R b c → R a c) (never : (m : ℕ) → m < n → R m m → ⊥) where
  ahead : (j k : ℕ) → j < k → R (f j) (f k)
  ahead j zero h = absurd (omega arith)
  ahead j (suc k) h = ⊎_elim (λ l. join (f j) (f k) (f (suc k)) (ahead j k l) (step k)) (λ g. let e : k ≡ j = omega arith in subst (λ i. R (f i) (f (suc k))) e (step k)) (below_or j k)

  none : (k j : ℕ) → j ≤ k → AllByRecursion (λ y. nat_eq (f k) y ≡ false) (upto f j)
  none k zero h = tt
  none k (suc j) h = (
    false_from_ne_true (nat_eq (f k) (f j)) (λ t. never (f j) (below j) (subst (R (f j)) (exact_unsigned_eq (f k) (f j) t) (ahead j k (omega arith)))),
    none k j (omega arith),
  )

  distinct : (k : ℕ) → IsDistinct nat_eq (upto f k)
  unfolding IsDistinct
  distinct zero = tt
  distinct (suc k) = (none k k (omega arith), distinct k)

  all_below : (k q : ℕ) → list_any (nat_eq q) (upto f k) ≡ true → q < n
  all_below zero q t = absurd (cc)
  all_below (suc k) q t = go (nat_eq q (f k)) (exact_unsigned_eq q (f k)) t (all_below k q)
    where
      go : (b : Bool) → (b ≡ true → q ≡ f k) → (b || list_any (nat_eq q) (upto f k)) ≡ true → (list_any (nat_eq q) (upto f k) ≡ true → q < n) → q < n
      go true e t rest = let same = e refl in let l = below k in omega arith
      go false e t rest = rest t

  pub no_sequence : ⊥
  no_sequence =
      let l = long f (suc n) in
      let few = length-le_from_distinct_below (upto f (suc n)) n (distinct (suc n)) (all_below (suc n)) in
      omega arith
