-- What the open levels tell of the symbols before one.
use Rattle.std.proofs.Common.{◌≡◌, ◌≢◌, ℕ, zero, suc, ◌+◌, ◌*◌, ◌<◌, ◌≤◌, Bool, true, false, List, [], ◌∷◌, None, map, refl, ap, sym, ◌∙◌, arith, add-one, if◌then◌else◌}
use Rattle.a68_words.specs.declared.role.Role.{Role}
use Rattle.a68_words.specs.declared.levels.OpenLevel.{OpenLevel}
use Rattle.a68_words.specs.Roles.{opens, closes, separates}
use Rattle.a68_words.specs.Levels.{Level, closed, passed_by, opened_by, at_role, behind_role, role_at, levels_before, levels_at, innermost, level_of, depth}
use Rattle.a68_words.specs.Steps.{plain, fresh, noted, noted_by, left, new_last, new_waits, role_before}
use Rattle.a68_words.proofs.Latest.{IsLatest, latest_same, latest_other, latest_fresh}

-- levels that begin at `bound` or before
abbrev pub IsLow : ℕ → List Level → Type 0
IsLow bound [] = Unit {0}
IsLow bound (level ∷ more) = (level.begins ≤ bound) × IsLow bound more

low_weaker : (a b : ℕ) (levels : List Level) → a ≤ b → IsLow a levels → IsLow b levels
low_weaker a b [] le low = tt
low_weaker a b (level ∷ more) le low = (omega arith, low_weaker a b more le low.1)

low_at : (b : Bool) (bound : ℕ) (levels : List Level) → IsLow bound levels → IsLow bound (if b then closed levels else levels)
low_at false bound levels low = low
low_at true bound [] low = low
low_at true bound (level ∷ []) low = low
low_at true bound (level ∷ outer ∷ more) low = low.1

low_passed : (b : Bool) (bound : ℕ) (levels : List Level) → IsLow bound levels → IsLow bound (passed_by b levels)
low_passed b bound [] low = low
low_passed b bound (level ∷ more) low = low

low_behind : (o b : Bool) (i : ℕ) (levels : List Level) → IsLow i levels
    → IsLow (i + 1) (if o then opened_by i (passed_by b levels) else passed_by b levels)
low_behind true b i levels low = (omega arith, low_weaker i (i + 1) (passed_by b levels) (omega arith) (low_passed b i levels low))
low_behind false b i levels low = low_weaker i (i + 1) (passed_by b levels) (omega arith) (low_passed b i levels low)

low_before : (roles : List Role) (i : ℕ) → IsLow i (levels_before roles i)
low_before roles zero = (omega arith, tt)
low_before roles (suc i) =
    rw (← add-one i) (low_behind (opens (role_at roles i)) (separates (role_at roles i)) i (levels_at roles i)
    (low_at (closes (role_at roles i)) i (levels_before roles i) (low_before roles i)))

low_innermost : (bound : ℕ) (levels : List Level) → IsLow bound levels → innermost levels ≤ bound
low_innermost bound [] low = omega arith
low_innermost bound (level ∷ more) low = low.0

-- a symbol's level begins at it or before
pub level_low : (roles : List Role) (i : ℕ) → level_of roles i ≤ i
level_low roles i = low_innermost i (levels_at roles i) (low_at (closes (role_at roles i)) i (levels_before roles i) (low_before roles i))

depth_at : (b : Bool) (levels : List Level) → depth (if b then closed levels else levels) ≤ depth levels
depth_at false levels = omega arith
depth_at true [] = omega arith
depth_at true (level ∷ []) = omega arith
depth_at true (level ∷ outer ∷ more) = omega arith

depth_passed : (b : Bool) (levels : List Level) → depth (passed_by b levels) ≤ depth levels + 1
depth_passed b [] = omega arith
depth_passed true (level ∷ more) = omega arith
depth_passed false (level ∷ more) = omega arith

depth_behind : (o b : Bool) (i : ℕ) (levels : List Level)
    → depth (if o then opened_by i (passed_by b levels) else passed_by b levels) ≤ depth levels + 2
depth_behind true b i levels = omega (arith, depth_passed b levels)
depth_behind false b i levels = omega (arith, depth_passed b levels)

depth_before : (roles : List Role) (i : ℕ) → depth (levels_before roles i) ≤ 2 * i + 1
depth_before roles zero = omega arith
depth_before roles (suc i) =
    omega (
      arith,
      depth_before roles i,
      depth_at (closes (role_at roles i)) (levels_before roles i),
      depth_behind (opens (role_at roles i)) (separates (role_at roles i)) i (levels_at roles i),
    )

-- nesting grows by two a symbol at most
pub shallow : (roles : List Role) (i : ℕ) → depth (levels_at roles i) ≤ 2 * i + 1
shallow roles i = omega (arith, depth_before roles i, depth_at (closes (role_at roles i)) (levels_before roles i))

plain_if : (b : Bool) (levels : List OpenLevel) → map plain (if b then closed levels else levels) ≡ (if b then closed (map plain levels) else map plain levels)
plain_if false levels = refl
plain_if true [] = refl
plain_if true (level ∷ []) = refl
plain_if true (level ∷ outer ∷ more) = refl

pub plain_at : (roles : List Role) (i : ℕ) (levels : List OpenLevel) → map plain levels ≡ levels_before roles i
    → map plain (at_role (role_at roles i) levels) ≡ levels_at roles i
plain_at roles i levels e = plain_if (closes (role_at roles i)) levels ∙ ap (at_role (role_at roles i)) e

plain_noted : (previous role : Role) (levels : List OpenLevel) → map plain (noted_by previous role levels) ≡ passed_by (separates role) (map plain levels)
plain_noted previous role [] = refl
plain_noted previous role (level ∷ more) = refl

plain_opened : (o : Bool) (i : ℕ) (previous role : Role) (levels : List OpenLevel)
    → map plain (if o then fresh (i + 1) ∷ noted_by previous role levels else noted_by previous role levels)
    ≡ (if o then opened_by i (passed_by (separates role) (map plain levels)) else passed_by (separates role) (map plain levels))
plain_opened true i previous role levels = ap (opened_by i) (plain_noted previous role levels)
plain_opened false i previous role levels = plain_noted previous role levels

pub plain_left : (roles : List Role) (i : ℕ) (levels : List OpenLevel) → map plain levels ≡ levels_at roles i
    → map plain (left i (role_before roles i) (role_at roles i) levels) ≡ levels_before roles (i + 1)
plain_left roles i levels e =
    plain_opened (opens (role_at roles i)) i (role_before roles i) (role_at roles i) levels ∙ ap (behind_role i (role_at roles i)) e
    ∙ ap (levels_before roles) (sym (add-one i))

-- what a level tells of the symbols before i
pub record IsTold (roles : List Role) (i : ℕ) (level : OpenLevel) : Type 0 where
  pub last : IsLatest (λ k. new_last (role_at roles k)) (level_of roles) level.begins None i level.last
  pub waits : IsLatest (λ k. new_waits (role_before roles k) (role_at roles k)) (level_of roles) level.begins false i level.waits

-- levels, each of which begins before the one within it
abbrev pub AreTold : List Role → ℕ → ℕ → List OpenLevel → Type 0
AreTold roles i bound [] = Unit {0}
AreTold roles i bound (level ∷ more) = (level.begins < bound) × IsTold roles i level × AreTold roles i level.begins more

told_weaker : (roles : List Role) (i a b : ℕ) (levels : List OpenLevel) → a ≤ b → AreTold roles i a levels → AreTold roles i b levels
told_weaker roles i a b [] le told = tt
told_weaker roles i a b (level ∷ more) le told = (omega arith, told.1, told.2)

told_if : (c : Bool) (roles : List Role) (i bound : ℕ) (levels : List OpenLevel) → AreTold roles i bound levels
    → AreTold roles i bound (if c then closed levels else levels)
told_if false roles i bound levels told = told
told_if true roles i bound [] told = told
told_if true roles i bound (level ∷ []) told = told
told_if true roles i bound (level ∷ outer ∷ more) told = told_weaker roles i level.begins bound (outer ∷ more) (omega arith) told.2

pub told_at : (roles : List Role) (i : ℕ) (role : Role) (levels : List OpenLevel) → AreTold roles i (i + 1) levels
    → AreTold roles i (i + 1) (at_role role levels)
told_at roles i role levels told = told_if (closes role) roles i (i + 1) levels told

told_other : (roles : List Role) (i : ℕ) (level : OpenLevel) → level_of roles i ≢ level.begins → IsTold roles i level → IsTold roles (i + 1) level
told_other roles i level other told = record {
  last = latest_other (λ (k : ℕ). new_last (role_at roles k)) (level_of roles) level.begins None i level.last other told.last;
  waits = latest_other (λ (k : ℕ). new_waits (role_before roles k) (role_at roles k)) (level_of roles) level.begins false i level.waits other told.waits;
}

told_below : (roles : List Role) (i bound : ℕ) (levels : List OpenLevel) → bound ≤ level_of roles i → AreTold roles i bound levels
    → AreTold roles (i + 1) bound levels
told_below roles i bound [] le told = tt
told_below roles i bound (level ∷ more) le told =
    let other : level_of roles i ≢ level.begins = omega arith in
    (told.0, told_other roles i level other told.1, told_below roles i level.begins more (omega arith) told.2)

told_noted : (roles : List Role) (i bound : ℕ) (level : OpenLevel) (more : List OpenLevel) → level_of roles i ≡ level.begins
    → AreTold roles i bound (level ∷ more) → AreTold roles (i + 1) bound (noted (role_before roles i) (role_at roles i) level ∷ more)
told_noted roles i bound level more same told = (
  told.0,
  record {
    last = latest_same (λ (k : ℕ). new_last (role_at roles k)) (level_of roles) level.begins None i level.last same told.1.last;
    waits = latest_same (λ (k : ℕ). new_waits (role_before roles k) (role_at roles k)) (level_of roles) level.begins false i level.waits same told.1.waits;
  },
  told_below roles i level.begins more (omega arith) told.2,
)

pub told_fresh : (roles : List Role) (i : ℕ) → IsTold roles i (fresh i)
told_fresh roles i =
    let none : (k : ℕ) → k < i → level_of roles k ≢ i = λ k h e. absurd (omega (arith, level_low roles k)) in
    record {
      last = latest_fresh (λ (k : ℕ). new_last (role_at roles k)) (level_of roles) i None i none;
      waits = latest_fresh (λ (k : ℕ). new_waits (role_before roles k) (role_at roles k)) (level_of roles) i false i none;
    }

told_opened : (o : Bool) (roles : List Role) (i : ℕ) (levels : List OpenLevel) → AreTold roles (i + 1) (i + 1) levels
    → AreTold roles (i + 1) (i + 1 + 1) (if o then fresh (i + 1) ∷ levels else levels)
told_opened true roles i levels told = (omega arith, told_fresh roles (i + 1), told)
told_opened false roles i levels told = told_weaker roles (i + 1) (i + 1) (i + 1 + 1) levels (omega arith) told

-- the innermost level is that of the symbol
pub top_is : (roles : List Role) (i : ℕ) (level : OpenLevel) (more levels : List OpenLevel) → map plain levels ≡ levels_at roles i
    → levels ≡ level ∷ more → level_of roles i ≡ level.begins
top_is roles i level more levels e top = ap innermost (sym e) ∙ ap (λ (ls : List OpenLevel). innermost (map plain ls)) top

told_noted_by : (roles : List Role) (i : ℕ) (levels : List OpenLevel) → map plain levels ≡ levels_at roles i
    → AreTold roles i (i + 1) levels → AreTold roles (i + 1) (i + 1) (noted_by (role_before roles i) (role_at roles i) levels)
told_noted_by roles i [] e told = tt
told_noted_by roles i (level ∷ more) e told = told_noted roles i (i + 1) level more (top_is roles i level more (level ∷ more) e refl) told

pub told_left : (roles : List Role) (i : ℕ) (levels : List OpenLevel) → map plain levels ≡ levels_at roles i
    → AreTold roles i (i + 1) levels → AreTold roles (i + 1) (i + 1 + 1) (left i (role_before roles i) (role_at roles i) levels)
told_left roles i levels e told = told_opened (opens (role_at roles i)) roles i (noted_by (role_before roles i) (role_at roles i) levels) (told_noted_by roles i levels e told)

-- what is told of the top
pub told_top : (roles : List Role) (i bound : ℕ) (level : OpenLevel) (more levels : List OpenLevel) → levels ≡ level ∷ more
    → AreTold roles i bound levels → IsTold roles i level
told_top roles i bound level more levels top told = (rw top at told).1
