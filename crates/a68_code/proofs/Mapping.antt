-- Elements of a list of places that a function has been applied to.
use Rattle.std.proofs.Common.{◌≡◌, ◌<◌, ℕ, List, length, get_or, sym, ap, ◌∙◌, arith}
use Rattle.std.specs.List.{Contains}
use Rattle.std.specs.Prelude.{map}
use Rattle.std.proofs.lemmas.List.{get_or-map, length-map}
use Rattle.std.proofs.lemmas.List.Elements.{Contains-get_or}

module _ (f : ℕ → ℕ × ℕ) where
  pub contains_map : (xs : List ℕ) (x : ℕ) → Contains xs x → Contains (map f xs) (f x)
  contains_map xs x i =
      let l = length-map xs f in
      let lt = i.1 in
      (i.0, omega arith, get_or-map f xs i.0 x (f x) i.1 ∙ ap f i.2)

  -- each of them is that of an element
  pub from_map : (xs : List ℕ) (y : ℕ × ℕ) → Contains (map f xs) y → (x : ℕ) × Contains xs x × (y ≡ f x)
  from_map xs y i =
      let l = length-map xs f in
      let lt = i.1 in
      let lt' : i.0 < length xs = omega arith in
      (get_or xs i.0 0, Contains-get_or xs i.0 0 lt', sym i.2 ∙ get_or-map f xs i.0 0 y lt')
