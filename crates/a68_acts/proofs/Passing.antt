-- The next steps are the last ones of the list that keeps them.
use Rattle.std.proofs.Common.{◌≡◌, ◌<◌, ◌≤◌, ◌+◌, ◌-◌, ℕ, List, [], ◌∷◌, ◌++◌, length, take, get_or, ap, sym, ◌∙◌, arith}
use Rattle.std.proofs.lemmas.List.{reverse-append, take_all, take_more, take_more_set}
use Rattle.std.specs.Prelude.{reverse, slice_set}

module _ {A : Type 0} (xs : List A) where
  -- the last of so many comes first
  pub last_first : (i : ℕ) (d : A) → i < length xs → reverse (take (i + 1) xs) ≡ get_or xs i d ∷ reverse (take i xs)
  last_first i d inside = ap reverse (take_more xs i d inside) ∙ reverse-append (take i xs) (get_or xs i d ∷ [])

  -- the last of all
  pub first_of_all : (i : ℕ) (d : A) → length xs ≡ i + 1 → reverse xs ≡ get_or xs i d ∷ reverse (take i xs)
  first_of_all i d e = ap reverse (sym (take_all (i + 1) xs (omega (arith, e)))) ∙ last_first i d (omega (arith, e))

  -- the last of so many is another one now
  pub set_first : (i : ℕ) (y : A) → i < length xs → reverse (take (i + 1) (slice_set xs i y)) ≡ y ∷ reverse (take i xs)
  set_first i y inside = ap reverse (take_more_set xs i y inside) ∙ reverse-append (take i xs) (y ∷ [])
