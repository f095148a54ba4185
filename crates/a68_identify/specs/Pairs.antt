-- Lists of one length, each element of the one in a relation with that at its place in the other.
use Rattle.std.specs.Prelude.{List, [], ◌∷◌}

pub data Pairwise {A B : Type 0} (R : A → B → Type 0) : List A → List B → Type 0 where
  none_left : Pairwise R [] []
  one_more : {x : A} {y : B} {xs : List A} {ys : List B} → R x y → Pairwise R xs ys → Pairwise R (x ∷ xs) (y ∷ ys)
