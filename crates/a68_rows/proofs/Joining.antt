-- The elements of rows, one behind the other.
use Rattle.std.proofs.Common.{◌≡◌, ◌++◌, ◌∷◌, [], ℤ, List, refl, ap, sym, ◌∙◌}
use Rattle.std.proofs.lemmas.List.{append-nil, append_assoc}
use Rattle.a68_acts.specs.Rowing.{joined}
use Rattle.a68_layout.specs.Views.{parts_in}
use Rattle.a68_steps.proofs.Filled.{parts_in-contents}
use Rattle.a68_values.specs.Content.{Content, void, plain, layout, structure, row, united, contents_of}

-- those of the first one, and those of the others
pub joined-first : (v : Content) (vs : List Content) → joined (v ∷ vs) ≡ joined (v ∷ []) ++ joined vs
joined-first (row bounds ps) vs = ap (λ xs. xs ++ joined vs) (sym (append-nil (parts_in ps)))
joined-first void vs = refl
joined-first (plain p) vs = refl
joined-first (layout l) vs = refl
joined-first (structure ps) vs = refl
joined-first (united m v) vs = refl

pub joined-row : (bounds : List (ℤ × ℤ)) (parts : List Content) → parts ≡ joined (row bounds (contents_of parts) ∷ [])
joined-row bounds parts = sym (append-nil (parts_in (contents_of parts)) ∙ parts_in-contents parts)
