-- The bytes of a line in which a name stands.
use Rattle.std.specs.Prelude.{◌≡◌, ℕ, List, [], ◌∷◌, ◌++◌, codes}
use Rattle.std.proofs.Common.{sym, ◌∙◌, append_assoc}
use Rattle.a68_report.specs.Lines.{line}

pub fault_bytes : (name place : List ℕ) → codes "a68: fault " ++ (name ++ (codes " at byte " ++ (place ++ 10 ∷ []))) ≡ line (codes "a68: fault " ++ name ++ codes " at byte " ++ place)
fault_bytes name place = sym
    (append_assoc (codes "a68: fault " ++ name ++ codes " at byte ") place (10 ∷ [])
    ∙ append_assoc (codes "a68: fault " ++ name) (codes " at byte ") (place ++ 10 ∷ [])
    ∙ append_assoc (codes "a68: fault ") name (codes " at byte " ++ (place ++ 10 ∷ [])))
