-- One step of the walk over the levels.
use Rattle.std.proofs.Common.{◌≡◌, ℕ, ◌+◌, ◌*◌, ◌≤◌, Bool, true, List, ◌∷◌, map, ap, subst, ◌∙◌}
use Rattle.std.specs.Prelude.{◌↔◌}
use Rattle.a68_words.specs.declared.class.Class.TheVariants.{ModeWord, OperatorWord}
use Rattle.a68_words.specs.declared.role.Role.{Role}
use Rattle.a68_words.specs.declared.levels.OpenLevel.{OpenLevel}
use Rattle.a68_words.specs.Definitions.{Defines}
use Rattle.a68_words.specs.Levels.{Level, IsOver, IsTooDeep, at_role, role_at, levels_before, levels_at, depth}
use Rattle.a68_words.specs.Steps.{plain, left, role_before, as_mode, as_operator}
use Rattle.a68_words.proofs.Telling.{AreTold, told_at, told_left, told_top, plain_at, plain_left, top_is, shallow}
use Rattle.a68_words.proofs.Defining.{mode_defined, operator_defined}

-- the levels at symbol i, and what they tell of the symbols before
pub record IsAt (roles : List Role) (i : ℕ) (levels : List OpenLevel) : Type 0 where
  pub told : AreTold roles i (i + 1) levels
  pub plain_is : map plain levels ≡ levels_at roles i

pub reached : (roles : List Role) (i : ℕ) (role : Role) (old levels : List OpenLevel) → role ≡ role_at roles i → levels ≡ at_role role old
    → AreTold roles i (i + 1) old → map plain old ≡ levels_before roles i → IsAt roles i levels
reached roles i role old levels r e told p =
    let is : levels ≡ at_role (role_at roles i) old = e ∙ ap (λ (r : Role). at_role r old) r in
    record {
      told = rw is (told_at roles i (role_at roles i) old told);
      plain_is = ap (map plain) is ∙ plain_at roles i old p;
    }

pub is_shallow : (roles : List Role) (i : ℕ) (levels : List OpenLevel) → IsAt roles i levels → depth (map plain levels) ≤ 2 * i + 1
is_shallow roles i levels at = rw at.plain_is (shallow roles i)

pub left_told : (roles : List Role) (i : ℕ) (previous role : Role) (levels new : List OpenLevel) → previous ≡ role_before roles i → role ≡ role_at roles i
    → new ≡ left i previous role levels → IsAt roles i levels → AreTold roles (i + 1) (i + 1 + 1) new
left_told roles i previous role levels new p r e at = rw (e, p, r) (told_left roles i levels at.plain_is at.told)

pub left_plain : (roles : List Role) (i : ℕ) (previous role : Role) (levels new : List OpenLevel) → previous ≡ role_before roles i → role ≡ role_at roles i
    → new ≡ left i previous role levels → IsAt roles i levels → map plain new ≡ levels_before roles (i + 1)
left_plain roles i previous role levels new p r e at = rw (e, p, r) (plain_left roles i levels at.plain_is)

pub flag_mode : (roles : List Role) (i : ℕ) (previous role next : Role) (level : OpenLevel) (more levels : List OpenLevel) (b : Bool)
    → previous ≡ role_before roles i → role ≡ role_at roles i → next ≡ role_at roles (i + 1) → levels ≡ level ∷ more → IsAt roles i levels
    → b ≡ as_mode previous role next level → (b ≡ true) ↔ Defines roles i ModeWord
flag_mode roles i previous role next level more levels b p r n top at e =
    rw (e, p, r, n) (mode_defined roles i level (top_is roles i level more levels at.plain_is top) (told_top roles i (i + 1) level more levels top at.told))

pub flag_operator : (roles : List Role) (i : ℕ) (previous role next : Role) (level : OpenLevel) (more levels : List OpenLevel) (b : Bool)
    → previous ≡ role_before roles i → role ≡ role_at roles i → next ≡ role_at roles (i + 1) → levels ≡ level ∷ more → IsAt roles i levels
    → b ≡ as_operator previous role next level → (b ≡ true) ↔ Defines roles i OperatorWord
flag_operator roles i previous role next level more levels b p r n top at e =
    rw (e, p, r, n) (operator_defined roles i level (top_is roles i level more levels at.plain_is top) (told_top roles i (i + 1) level more levels top at.told))

pub over : (roles : List Role) (i : ℕ) (role : Role) (levels : List OpenLevel) (b : Bool) → role ≡ role_at roles i → IsAt roles i levels
    → (b ≡ true) ↔ IsOver role (map plain levels) → (b ≡ true) ↔ IsTooDeep roles i
over roles i role levels b r at is =
    subst (λ (ls : List Level). (b ≡ true) ↔ IsOver (role_at roles i) ls) at.plain_is (subst (λ (r : Role). (b ≡ true) ↔ IsOver r (map plain levels)) r is)
