-- An instruction that is read from the list.
use Rattle.std.proofs.Common.{◌≡◌, ◌<◌, ◌↔◌, ℕ, zero, suc, List, [], ◌∷◌, Bool, false, IsTrue, length, get_or, Some, refl, ap, ◌∙◌, arith, subst}
use Rattle.std.specs.Option.{option_map}
use Rattle.std.proofs.lemmas.Bool.{both_ways}
use Rattle.std.proofs.lemmas.Option.{slice_get_read}
use Rattle.a68_code.specs.Flow.{does_at}
use Rattle.a68_code.specs.Operands.{is_well_made}
use Rattle.a68_code.specs.Walk.{FitsAt}
use Rattle.a68_code.specs.declared.code.Code.{Code}
use Rattle.a68_code.specs.declared.code.Instr.{Instr}
use Rattle.a68_code.specs.declared.does.Does.{Does}

pub does_at_read : (list items : List Instr) (at : ℕ) (instr : Instr) → items ≡ list → at < length list → instr ≡ get_or items at instr → does_at list at ≡ Some instr.does
does_at_read list items at instr e lt r =
    let lt' : at < length items = omega (arith, ap length e) in
    subst (λ (l : List Instr). does_at l at ≡ Some instr.does) e (ap (λ o. option_map (λ (i : Instr). i.does) o) (slice_get_read items (length items) at instr refl lt' r))

pub does_at_within : (list : List Instr) (at : ℕ) (does : Does) → does_at list at ≡ Some does → at < length list
does_at_within [] at does e = absurd (cc)
does_at_within (x ∷ xs) zero does e = omega arith
does_at_within (x ∷ xs) (suc at) does e = let h = does_at_within xs at does e in omega arith

-- an instruction with other operands than it may have does not fit
pub not_fitting : (code : Code) (at : ℕ) (does : Does) (b : Bool) → does_at code.list at ≡ Some does → b ≡ is_well_made code.modes (length code.texts) (length code.list) does → b ≡ false → IsTrue b ↔ FitsAt code at
not_fitting code at does b is e f = (λ t. absurd (both_ways b f t), λ fits. e ∙ (fits does is).0)
