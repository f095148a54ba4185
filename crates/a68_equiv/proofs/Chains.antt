-- Chains of single steps: where no chain comes back to a node that it has passed, it ends before it has passed all.
use Rattle.std.proofs.Common.{◌≡◌, ◌<◌, ℕ, zero, suc, List, [], ◌∷◌, Bool, true, false, ◌||◌, Option, Some, None, length, refl, sym, ap, arith, subst}
use Rattle.std.specs.List.{AllByRecursion, list_any, IsDistinct}
use Rattle.std.specs.Bool.{nat_eq}
use Rattle.std.proofs.lemmas.Bool.{false_from_ne_true}
use Rattle.std.proofs.lemmas.Map.Steps.{length-le_from_distinct_below}
use Rattle.std.proofs.lemmas.Map.Views.{exact_unsigned_eq}

abbrev pub counted : (ℕ → ℕ) → Option ℕ → ℕ
counted f None = 0
counted f (Some k) = suc (f k)

-- how many steps there are from a node, as far as the fuel goes
abbrev pub steps : (ℕ → Option ℕ) → ℕ → ℕ → ℕ
steps next zero m = 0
steps next (suc fuel) m = counted (steps next fuel) (next m)

abbrev pass : (ℕ → List ℕ) → Option ℕ → List ℕ
pass f None = []
pass f (Some k) = f k

-- the nodes that a chain passes
abbrev passed : (ℕ → Option ℕ) → ℕ → ℕ → List ℕ
passed next zero m = m ∷ []
passed next (suc fuel) m = m ∷ pass (passed next fuel) (next m)

-- more fuel changes nothing where some is left
enough : (next : ℕ → Option ℕ) (fuel m : ℕ) → steps next fuel m < fuel → steps next (suc fuel) m ≡ steps next fuel m
enough next zero m h = absurd (omega arith)
enough next (suc fuel) m h = go (next m) h (enough next fuel)
  where
    go : (s : Option ℕ) → counted (steps next fuel) s < suc fuel → ((k : ℕ) → steps next fuel k < fuel → steps next (suc fuel) k ≡ steps next fuel k) → counted (steps next (suc fuel)) s ≡ counted (steps next fuel) s
    go None h ih = refl
    go (Some k) h ih = ap suc (ih k (omega arith))

module _ (next : ℕ → Option ℕ) (n : ℕ) (R : ℕ → ℕ → Type 0)
    (inside : (m k : ℕ) → m < n → next m ≡ Some k → k < n)
    (step : (m k : ℕ) → m < n → next m ≡ Some k → R m k)
    (join : (m k j : ℕ) → R m k → R k j → R m j)
    (forth : (m : ℕ) → m < n → R m m → ⊥) where
  long : (fuel m : ℕ) → length (passed next fuel m) ≡ suc (steps next fuel m)
  long zero m = refl
  long (suc fuel) m = go (next m) (long fuel)
    where
      go : (s : Option ℕ) → ((k : ℕ) → length (passed next fuel k) ≡ suc (steps next fuel k)) → suc (length (pass (passed next fuel) s)) ≡ suc (counted (steps next fuel) s)
      go None ih = refl
      go (Some k) ih = ap suc (ih k)

  differs : (m k : ℕ) → m < n → R m k → nat_eq m k ≡ false
  differs m k h w = false_from_ne_true (nat_eq m k) (λ t. forth m h (subst (λ (x : ℕ). R m x) (sym (exact_unsigned_eq m k t)) w))

  none_is : (fuel m k : ℕ) → m < n → k < n → R m k → AllByRecursion (λ y. nat_eq m y ≡ false) (passed next fuel k)
  none_is zero m k h g w = (differs m k h w, tt)
  none_is (suc fuel) m k h g w = (differs m k h w, go (next k) refl (none_is fuel m))
    where
      go : (s : Option ℕ) → next k ≡ s → ((j : ℕ) → m < n → j < n → R m j → AllByRecursion (λ y. nat_eq m y ≡ false) (passed next fuel j)) → AllByRecursion (λ y. nat_eq m y ≡ false) (pass (passed next fuel) s)
      go None e ih = tt
      go (Some j) e ih = ih j h (inside k j g e) (join m k j w (step k j g e))

  distinct : (fuel m : ℕ) → m < n → IsDistinct nat_eq (passed next fuel m)
  unfolding IsDistinct
  distinct zero m h = (tt, tt)
  distinct (suc fuel) m h = go (next m) refl (distinct fuel)
    where
      go : (s : Option ℕ) → next m ≡ s → ((j : ℕ) → j < n → IsDistinct nat_eq (passed next fuel j)) → IsDistinct nat_eq (m ∷ pass (passed next fuel) s)
      go None e ih = (tt, tt)
      go (Some j) e ih = (none_is fuel m j h (inside m j h e) (step m j h e), ih j (inside m j h e))

  all_below : (fuel m : ℕ) → m < n → (q : ℕ) → list_any (nat_eq q) (passed next fuel m) ≡ true → q < n
  all_below zero m h q t = go (nat_eq q m) (exact_unsigned_eq q m) t
    where
      go : (b : Bool) → (b ≡ true → q ≡ m) → (b || false) ≡ true → q < n
      go true f t = let e = f refl in omega arith
      go false f t = absurd (cc)
  all_below (suc fuel) m h q t = go (nat_eq q m) (exact_unsigned_eq q m) (next m) refl (all_below fuel) t
    where
      go : (b : Bool) → (b ≡ true → q ≡ m) → (s : Option ℕ) → next m ≡ s → ((k : ℕ) → k < n → (r : ℕ) → list_any (nat_eq r) (passed next fuel k) ≡ true → r < n)
          → (b || list_any (nat_eq q) (pass (passed next fuel) s)) ≡ true → q < n
      go true f s e ih t = let same = f refl in omega arith
      go false f None e ih t = absurd (cc)
      go false f (Some k) e ih t = ih k (inside m k h e) q t

  pub ends : (m : ℕ) → m < n → steps next n m < n
  ends m h =
      let l = long n m in
      let few = length-le_from_distinct_below (passed next n m) n (distinct n m h) (all_below n m h) in
      omega arith

  pub falls : (m k : ℕ) → m < n → next m ≡ Some k → steps next n k < steps next n m
  falls m k h e =
      let same = enough next n m (ends m h) in
      let now : steps next (suc n) m ≡ suc (steps next n k) = ap (counted (steps next n)) e in
      omega arith
