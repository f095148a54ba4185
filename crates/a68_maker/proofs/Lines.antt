-- The lines of units, one behind the other.
use Rattle.std.proofs.Common.{◌≡◌, ◌<◌, ◌+◌, ◌-◌, ℕ, suc, List, ◌++◌, codes, sym, ◌∙◌, ap, arith, append_assoc}
use Rattle.a68_maker.specs.Making.{unit_lines, unit_text}

-- one line more is there, and one line less is due
pub one_more : (text all : List ℕ) (number units : ℕ) → number < units → text ++ unit_lines number (units - number) ≡ all
    → (text ++ (unit_text number ++ codes ",\n")) ++ unit_lines (number + 1) (units - (number + 1)) ≡ all
one_more text all number units less e =
    let left : units - number ≡ suc (units - (number + 1)) = omega arith in
    let next : number + 1 ≡ suc number = omega arith in
    ap (λ (n : ℕ). (text ++ (unit_text number ++ codes ",\n")) ++ unit_lines n (units - (number + 1))) next
    ∙ append_assoc text (unit_text number ++ codes ",\n") (unit_lines (suc number) (units - (number + 1)))
    ∙ ap (λ (n : ℕ). text ++ unit_lines number n) (sym left) ∙ e
