-- Inner: the headline does not rest on this file.
-- What the walk over the levels of a text keeps.
use Rattle.std.specs.Prelude.{◌≡◌, ℕ, zero, suc, ◌+◌, ◌<◌, ◌↔◌, Bool, true, false, ◌||◌, ◌&&◌, List, [], ◌∷◌, length, slice_index_or, slice_index, nat_le, Option, Some, None, if◌then◌else◌}
use Rattle.a68_words.specs.declared.class.Class.{Class}
use Rattle.a68_words.specs.declared.class.Class.TheVariants.{ModeWord, OperatorWord}
use Rattle.a68_words.specs.declared.role.Role.{Role}
use Rattle.a68_words.specs.declared.role.Role.TheVariants.{Round, Comma, Mode, Prio, Op, Equals, Standard, Bold, Other}
use Rattle.a68_words.specs.declared.levels.OpenLevel.{OpenLevel}
use Rattle.a68_words.specs.Roles.{is_definable, definer, opens, separates}
use Rattle.a68_words.specs.Levels.{Level, role_at}

-- a level without what it knows of definitions
abbrev pub plain : OpenLevel → Level
plain level = record { begins = level.begins; passed = level.passed }

-- a level that begins at that symbol
abbrev pub fresh : ℕ → OpenLevel
fresh i = record { begins = i; passed = 0; last = None; waits = false }

-- the role of the symbol in front of symbol i
abbrev pub role_before : List Role → ℕ → Role
role_before roles zero = Other
role_before roles (suc i) = role_at roles i

abbrev pub is_op : Role → Bool
is_op Op = true
is_op _ = false

abbrev pub is_round : Role → Bool
is_round Round = true
is_round _ = false

abbrev pub is_equals : Role → Bool
is_equals Equals = true
is_equals _ = false

-- what a new definer makes of the one that counts
abbrev pub newly : Option Class → Option (Option Class)
newly (Some class) = Some (Some class)
newly None = None

-- what a symbol newly says of the definer that counts, if anything
abbrev pub new_last : Role → Option (Option Class)
new_last role = newly (definer role)

-- what a symbol newly says of whether an OP before ( waits for its =, if anything
abbrev pub new_waits : Role → Role → Option Bool
new_waits previous role = if is_equals role then Some false else (if is_op previous && is_round role then Some true else None)

abbrev pub or_old : {X : Type 0} → Option X → X → X
or_old None old = old
or_old (Some new) old = new

-- the level behind a symbol of its own
abbrev pub noted : Role → Role → OpenLevel → OpenLevel
noted previous role level =
    record {
      begins = level.begins;
      passed = if separates role then 0 else level.passed + 1;
      last = or_old (new_last role) level.last;
      waits = or_old (new_waits previous role) level.waits;
    }

-- the innermost level behind a symbol of its own
abbrev pub noted_by : Role → Role → List OpenLevel → List OpenLevel
noted_by previous role [] = []
noted_by previous role (level ∷ more) = noted previous role level ∷ more

-- all levels behind symbol i, from those at it
abbrev pub left : ℕ → Role → Role → List OpenLevel → List OpenLevel
left i previous role levels = if opens role then fresh (i + 1) ∷ noted_by previous role levels else noted_by previous role levels

abbrev pub is_mode : Role → Bool
is_mode Mode = true
is_mode _ = false

abbrev pub is_operator_definer : Role → Bool
is_operator_definer Prio = true
is_operator_definer Op = true
is_operator_definer _ = false

abbrev pub is_comma : Role → Bool
is_comma Comma = true
is_comma _ = false

abbrev pub is_mode_word : Option Class → Bool
is_mode_word (Some ModeWord) = true
is_mode_word _ = false

abbrev pub is_operator_word : Option Class → Bool
is_operator_word (Some OperatorWord) = true
is_operator_word _ = false

-- is a symbol between those defined as a mode, at a level that knows so much?
abbrev pub as_mode : Role → Role → Role → OpenLevel → Bool
as_mode previous role next level =
    is_definable role && (is_mode previous || is_comma previous && (is_equals next && is_mode_word level.last))

-- is it defined as an operator?
abbrev pub as_operator : Role → Role → Role → OpenLevel → Bool
as_operator previous role next level =
    is_definable role
    && (is_operator_definer previous || (is_equals next && (level.waits || (is_comma previous && is_operator_word level.last))))

-- the flags of the first n symbols tell which of them have the property
pub record AreFlags (P : ℕ → Type 0) (n : ℕ) (flags : List Bool) : Type 0 where
  pub whole : length flags ≡ n
  pub each : (k : ℕ) → k < n → (slice_index_or flags k false ≡ true) ↔ P k

-- the first of the first n symbols that has the property, if one has
abbrev pub IsFirstSymbol : (ℕ → Type 0) → ℕ → Option ℕ → Type 0
IsFirstSymbol P n (Some i) = (i < n) × P i × ((k : ℕ) → k < i → P k → ⊥)
IsFirstSymbol P n None = (k : ℕ) → k < n → P k → ⊥

-- the first symbol so far, where symbol i has the property or not
abbrev pub first : Option ℕ → Bool → ℕ → Option ℕ
first (Some k) holds i = Some k
first None true i = Some i
first None false i = None

-- symbol j is flagged and has the name
abbrev pub IsFlagged : List Bool → List ℕ → ℕ → ℕ → Type 0
IsFlagged flags names name j = (slice_index_or flags j false ≡ true) × (slice_index names j ≡ name)

-- all names are below a count
abbrev pub NamesAreBelow : List ℕ → ℕ → Type 0
NamesAreBelow names count = (i : ℕ) → i < length names → slice_index names i < count

-- for each name below a count the first of the first n symbols that is flagged and has it
pub record AreFirstFlagged (flags : List Bool) (names : List ℕ) (count n : ℕ) (table : List (Option ℕ)) : Type 0 where
  pub whole : length table ≡ count
  pub each : (name : ℕ) → name < count → IsFirstSymbol (IsFlagged flags names name) n (slice_index_or table name None)

-- is there one, and does it stand at i or before?
abbrev pub is_by : Option ℕ → ℕ → Bool
is_by (Some k) i = nat_le k i
is_by None i = false

abbrev pub is_standard_role : Role → Bool
is_standard_role Standard = true
is_standard_role _ = false

abbrev pub is_bold_role : Role → Bool
is_bold_role Bold = true
is_bold_role _ = false
