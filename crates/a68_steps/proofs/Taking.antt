-- The latest values taken one by one.
use Rattle.std.proofs.Common.{◌≡◌, ◌+◌, ◌<◌, ℕ, List, ◌∷◌, [], ◌++◌, length, take, drop, get_or, ap, sym, ◌∙◌, arith}
use Rattle.std.proofs.lemmas.List.{drop_more, take_more, length-drop}

module _ {A : Type 0} (all rest : List A) (v : A) (i : ℕ) (e : drop i all ≡ v ∷ rest) where
  inside : i < length all
  inside = omega (arith, length-drop i all, ap (λ (l : List A). length l) e)

  more : get_or all i v ∷ drop (i + 1) all ≡ v ∷ rest
  more = sym (drop_more all i v inside) ∙ e

  pub taken-one : take (i + 1) all ≡ take i all ++ v ∷ []
  taken-one =
      let both : get_or all i v ∷ drop (i + 1) all ≡ v ∷ rest = more in
      let this : get_or all i v ≡ v = cc in take_more all i v inside ∙ ap (λ x. take i all ++ x ∷ []) this

  pub left-one : rest ≡ drop (i + 1) all
  left-one = let both : get_or all i v ∷ drop (i + 1) all ≡ v ∷ rest = more in cc
