-- The classes of the words of a text, and what is broken where they have none or the text is too deep (own).
use Rattle.std.specs.Prelude.{◌≡◌, ◌≢◌, ℕ, ◌<◌, ◌≤◌, ◌⊎◌, false, List, length, slice_get, slice_index, Option, Some, None, Result, Ok, Err}
use Rattle.a68_base.specs.declared.refusal.Rule.{Rule}
use Rattle.a68_base.specs.declared.refusal.Rule.TheVariants.{S4, N2, L3}
use Rattle.a68_base.specs.declared.refusal.Stop.{Stop}
use Rattle.a68_base.specs.declared.refusal.Stop.TheVariants.{Refused, NoMemory}
use Rattle.a68_symbols.specs.declared.symbol.Symbol.{Symbol}
use Rattle.a68_symbols.specs.declared.symbol.SymbolKind.{SymbolKind}
use Rattle.a68_symbols.specs.declared.symbol.SymbolKind.TheVariants.{Word}
use Rattle.a68_symbols.specs.Names.{Named}
use Rattle.a68_words.specs.declared.class.Class.{Class}
use Rattle.a68_words.specs.declared.class.Class.TheVariants.{Reserved, ModeWord, OperatorWord}
use Rattle.a68_words.specs.declared.role.Role.{Role}
use Rattle.a68_words.specs.declared.role.Role.TheVariants.{Standard, Bold}
use Rattle.a68_words.specs.Roles.{is_definable}
use Rattle.a68_words.specs.Levels.{role_at, IsTooDeep}
use Rattle.a68_words.specs.Definitions.{Defines}
use Rattle.a68_words.specs.Spellings.{roles_of, names_of}

-- symbol j is the word that is symbol i, and it is defined so there
abbrev pub IsDefinedAt : List Role → List ℕ → ℕ → ℕ → Class → Type 0
IsDefinedAt roles names i j class = Defines roles j class × (slice_index names j ≡ slice_index names i)

-- The word that is symbol i is defined so, and nowhere otherwise.
pub record IsDefined (roles : List Role) (names : List ℕ) (i : ℕ) (class : Class) : Type 0 where
  pub somewhere : (j : ℕ) × IsDefinedAt roles names i j class
  pub only : (j : ℕ) (other : Class) → IsDefinedAt roles names i j other → other ≡ class

-- The class of the word that is symbol i.
pub data HasClass (roles : List Role) (names : List ℕ) (i : ℕ) : Class → Type 0 where
  -- a word of the language itself
  reserved : is_definable (role_at roles i) ≡ false → HasClass roles names i Reserved
  -- a standard operator word
  standard : role_at roles i ≡ Standard → HasClass roles names i OperatorWord
  -- any other word has the class with which the text defines it
  defined : {class : Class} → role_at roles i ≡ Bold → IsDefined roles names i class → HasClass roles names i class

-- a symbol of that kind has a class exactly where it is a word
abbrev pub IsClassOf : List Role → List ℕ → ℕ → SymbolKind → Option Class → Type 0
IsClassOf roles names i kind (Some class) = (kind ≡ Word) × HasClass roles names i class
IsClassOf roles names i kind None = kind ≢ Word

-- one item for each symbol, its class if it is a word
pub record AreClasses (found : Named) (classes : List (Option Class)) : Type 0 where
  pub whole : length classes ≡ length found.symbols
  pub each : (i : ℕ) (s : Symbol) → slice_get found.symbols i ≡ Some s
      → (class : Option Class) × (slice_get classes i ≡ Some class) × IsClassOf (roles_of found) (names_of found) i s.kind class

-- What is broken at symbol i.
pub data BreaksAt (roles : List Role) (names : List ℕ) (i : ℕ) : Rule → Type 0 where
  -- a word is defined, and it is defined otherwise there or at an earlier place
  defined_otherwise : {j : ℕ} {class other : Class} → Defines roles i class → j ≤ i → IsDefinedAt roles names i j other → other ≢ class
      → BreaksAt roles names i S4
  -- a standard operator word is defined as a mode
  standard_mode : role_at roles i ≡ Standard → Defines roles i ModeWord → BreaksAt roles names i S4
  -- a word that is neither reserved nor a standard operator word is defined nowhere
  undefined : role_at roles i ≡ Bold → ((j : ℕ) (class : Class) → IsDefinedAt roles names i j class → ⊥) → BreaksAt roles names i N2
  -- more brackets are open, or a symbol is nested deeper, than may be
  too_deep : i < length roles → IsTooDeep roles i → BreaksAt roles names i L3

-- at one symbol S4 comes before N2, and N2 before L3
abbrev pub rank : Rule → ℕ
rank S4 = 0
rank N2 = 1
rank _ = 2

-- a rule that is broken at symbol i is answered before one that is broken at symbol j
abbrev pub IsBefore : ℕ → Rule → ℕ → Rule → Type 0
IsBefore i rule j other = (i < j) ⊎ ((i ≡ j) × (rank rule ≤ rank other))

-- the first thing broken, and the first byte of the symbol at which it is
pub record IsRefusedAt (found : Named) (rule : Rule) (place : ℕ) : Type 0 where
  pub at : ℕ
  pub symbol : Symbol
  pub is : slice_get found.symbols at ≡ Some symbol
  pub here : place ≡ symbol.span.from
  pub broken : BreaksAt (roles_of found) (names_of found) at rule
  pub first : (j : ℕ) (other : Rule) → BreaksAt (roles_of found) (names_of found) j other → IsBefore at rule j other

-- nothing is broken, and each word has its class
pub record IsClassed (found : Named) (classes : List (Option Class)) : Type 0 where
  pub words : AreClasses found classes
  pub fine : (j : ℕ) (rule : Rule) → BreaksAt (roles_of found) (names_of found) j rule → ⊥

-- what the words of a text are answered with
abbrev pub AnswersWords : Named → Result (List (Option Class)) Stop → Type 0
AnswersWords found (Ok classes) = IsClassed found classes
AnswersWords found (Err (Refused refusal)) = IsRefusedAt found refusal.rule refusal.place
AnswersWords found (Err NoMemory) = Unit {0}
