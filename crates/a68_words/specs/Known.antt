-- Inner: the headline does not rest on this file.
-- What is known of a symbol before it is judged, and what is the first thing broken.
use Rattle.std.specs.Prelude.{◌≡◌, ℕ, ◌↔◌, Bool, true, not, nat_lt, ◌||◌, ◌&&◌, List, length, Option, Some, None, if◌then◌else◌}
use Rattle.std.specs.Option.{is_some}
use Rattle.a68_base.specs.declared.refusal.Rule.{Rule}
use Rattle.a68_symbols.specs.declared.symbol.SymbolKind.{SymbolKind}
use Rattle.a68_symbols.specs.declared.symbol.SymbolKind.TheVariants.{Word}
use Rattle.a68_words.specs.declared.class.Class.{Class}
use Rattle.a68_words.specs.declared.class.Class.TheVariants.{Reserved, ModeWord, OperatorWord}
use Rattle.a68_words.specs.declared.role.Role.{Role}
use Rattle.a68_words.specs.declared.known.Known.{Known}
use Rattle.a68_words.specs.declared.known.BrokenRule.{BrokenRule}
use Rattle.a68_words.specs.Levels.{role_at}
use Rattle.a68_words.specs.Definitions.{Defines}
use Rattle.a68_words.specs.Classes.{IsDefinedAt, BreaksAt, IsBefore}
use Rattle.a68_words.specs.Steps.{NamesAreBelow, AreFirstFlagged, IsFirstSymbol, AreFlags, is_by, is_standard_role, is_bold_role}

-- The symbols of a text by their roles and names.
pub record Outline : Type 0 where
  pub roles : List Role
  pub names : List ℕ

-- The tables of a text: for each symbol whether it is defined so there, and for each name the first symbol that is.
pub record AreTables (outline : Outline) (modes operators : List Bool) (first_modes first_operators : List (Option ℕ)) : Type 0 where
  pub same : length outline.names ≡ length outline.roles
  pub are_modes : AreFlags (λ i. Defines outline.roles i ModeWord) (length outline.roles) modes
  pub are_operators : AreFlags (λ i. Defines outline.roles i OperatorWord) (length outline.roles) operators
  pub count : ℕ
  pub below : NamesAreBelow outline.names count
  pub firsts_of_modes : AreFirstFlagged modes outline.names count (length outline.names) first_modes
  pub firsts_of_operators : AreFirstFlagged operators outline.names count (length outline.names) first_operators

-- the role of symbol i, what it is defined as there, and the first symbols that define its word
pub record IsKnown (roles : List Role) (names : List ℕ) (i : ℕ) (known : Known) : Type 0 where
  pub role : known.role ≡ role_at roles i
  pub mode : (known.mode ≡ true) ↔ Defines roles i ModeWord
  pub operator : (known.operator ≡ true) ↔ Defines roles i OperatorWord
  pub first_mode : IsFirstSymbol (λ j. IsDefinedAt roles names i j ModeWord) (length roles) known.first_mode
  pub first_operator : IsFirstSymbol (λ j. IsDefinedAt roles names i j OperatorWord) (length roles) known.first_operator

-- is symbol i defined otherwise than at an earlier place?
abbrev pub differs : ℕ → Known → Bool
differs i known =
    known.mode && (is_standard_role known.role || is_by known.first_operator i) || known.operator && is_by known.first_mode i

-- is its word defined nowhere?
abbrev pub is_undefined : Known → Bool
is_undefined known = is_bold_role known.role && not (is_some known.first_mode || is_some known.first_operator)

-- the class of a word of a text in which nothing is broken
abbrev pub class_of : Known → Class
class_of known =
    if is_standard_role known.role then OperatorWord else (
    if is_bold_role known.role then (if is_some known.first_mode then ModeWord else OperatorWord) else Reserved)

abbrev pub class_in : SymbolKind → Known → Option Class
class_in Word known = Some (class_of known)
class_in _ known = None

-- the one that comes first, and the left one where both stand at one symbol
abbrev pub earlier : Option BrokenRule → Option BrokenRule → Option BrokenRule
earlier None other = other
earlier (Some fault) None = Some fault
earlier (Some fault) (Some other) = if nat_lt other.symbol fault.symbol then Some other else Some fault

-- a rule's first symbol as a fault
abbrev pub fault_of : Rule → Option ℕ → Option BrokenRule
fault_of rule (Some symbol) = Some (record { rule = rule; symbol = symbol })
fault_of rule None = None

-- the first thing broken, if anything is
abbrev pub IsFirstFault : Outline → Option BrokenRule → Type 0
IsFirstFault outline (Some fault) =
    BreaksAt outline.roles outline.names fault.symbol fault.rule
    × ((j : ℕ) (other : Rule) → BreaksAt outline.roles outline.names j other → IsBefore fault.symbol fault.rule j other)
IsFirstFault outline None = (j : ℕ) (rule : Rule) → BreaksAt outline.roles outline.names j rule → ⊥

-- nothing is broken
abbrev pub IsFine : Outline → Type 0
IsFine outline = (j : ℕ) (rule : Rule) → BreaksAt outline.roles outline.names j rule → ⊥
