-- How many parts a row has, and two words put one behind the other.
use Rattle.std.proofs.Common.{◌≡◌, ℕ, ◌∙◌, ap, List, [], ◌∷◌, ◌++◌, append_assoc, length, refl, arith, OnOk, Ok, Err}
use Rattle.std.specs.declared.result.Result.{Result}
use Rattle.a68_report.specs.Constants.{count_of}
use Rattle.a68_values.specs.Content.{Content, contents_of}

pub counted : (parts : List Content) → count_of (contents_of parts) ≡ length parts
counted [] = refl
counted (part ∷ parts) = omega (arith, counted parts)

pub joined : {T E : Type 0} (r : Result T E) (old one other between new : List ℕ) → between ≡ old ++ one → OnOk r (new ≡ between ++ other) → OnOk r (new ≡ old ++ (one ++ other))
joined (Ok x) old one other between new e p = p ∙ ap (λ (l : List ℕ). l ++ other) e ∙ append_assoc old one other
joined (Err x) old one other between new e p = tt
