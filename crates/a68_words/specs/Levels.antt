-- The levels of a text: each open bracket, and the text outside all. How deep a symbol is nested (own).
use Rattle.std.specs.Prelude.{◌≡◌, ℕ, zero, suc, ◌+◌, ◌-◌, ◌<◌, ◌≤◌, ◌⊎◌, Bool, true, List, [], ◌∷◌, length, slice_index_or, if◌then◌else◌}
use Rattle.a68_words.specs.declared.role.Role.{Role}
use Rattle.a68_words.specs.declared.role.Role.TheVariants.{Other}
use Rattle.a68_words.specs.Roles.{opens, closes, separates}

-- A level: the number of its first symbol, and how many symbols of its present stretch have passed.
pub record Level : Type 0 where
  pub begins : ℕ
  pub passed : ℕ

-- the innermost bracket is open no more, if one is open
abbrev pub closed : {X : Type 0} → List X → List X
closed [] = []
closed (level ∷ []) = level ∷ []
closed (level ∷ outer ∷ more) = outer ∷ more

-- a symbol has passed, behind which a stretch begins or not
abbrev pub passed_by : Bool → List Level → List Level
passed_by begins_anew [] = []
passed_by begins_anew (level ∷ more) =
    record { begins = level.begins; passed = if begins_anew then 0 else level.passed + 1 } ∷ more

-- a bracket has been opened by symbol i
abbrev pub opened_by : ℕ → List Level → List Level
opened_by i levels = record { begins = i + 1; passed = 0 } ∷ levels

-- The levels at a symbol, from those in front of it, innermost first: an opening or a closing bracket is a symbol of the
-- level about it.
abbrev pub at_role : {X : Type 0} → Role → List X → List X
at_role role levels = if closes role then closed levels else levels

-- the levels behind symbol i, from those at it
abbrev pub behind_role : ℕ → Role → List Level → List Level
behind_role i role levels = if opens role then opened_by i (passed_by (separates role) levels) else passed_by (separates role) levels

-- the role of symbol i; past the end there are only other symbols
abbrev pub role_at : List Role → ℕ → Role
role_at roles i = slice_index_or roles i Other

-- the levels in front of symbol i
abbrev pub levels_before : List Role → ℕ → List Level
levels_before roles zero = record { begins = 0; passed = 0 } ∷ []
levels_before roles (suc i) = behind_role i (role_at roles i) (at_role (role_at roles i) (levels_before roles i))

-- the levels at symbol i
abbrev pub levels_at : List Role → ℕ → List Level
levels_at roles i = at_role (role_at roles i) (levels_before roles i)

-- the number of the first symbol of the innermost level
abbrev pub innermost : List Level → ℕ
innermost [] = 0
innermost (level ∷ more) = level.begins

-- a symbol's level, by its first symbol
abbrev pub level_of : List Role → ℕ → ℕ
level_of roles i = innermost (levels_at roles i)

-- how many brackets are open
abbrev pub brackets : {X : Type 0} → List X → ℕ
brackets levels = length levels - 1

-- how deep a symbol at these levels is nested: over all of them, 1 and the symbols of the present stretch before it
abbrev pub depth : List Level → ℕ
depth [] = 0
depth (level ∷ more) = 1 + level.passed + depth more

abbrev pub most_brackets : ℕ
most_brackets = 200

abbrev pub most_nesting : ℕ
most_nesting = 1000

-- a symbol of that role opens a bracket where as many are open as may be, or it is nested deeper than one may be
abbrev pub IsOver : Role → List Level → Type 0
IsOver role levels = ((opens role ≡ true) × (most_brackets ≤ brackets levels)) ⊎ (most_nesting < depth levels)

-- symbol i does so
abbrev pub IsTooDeep : List Role → ℕ → Type 0
IsTooDeep roles i = IsOver (role_at roles i) (levels_at roles i)
