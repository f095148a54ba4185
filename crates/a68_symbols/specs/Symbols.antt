-- The one list of symbols of a text, and the one place where there is none.
use Rattle.std.specs.Prelude.{◌≡◌, ℕ, ◌+◌, ◌<◌, ◌≤◌, Bool, false, List, [], ◌∷◌, length, take, drop, map, Result, Ok, Err}
use Rattle.a68_base.specs.declared.refusal.Span.{Span}
use Rattle.a68_base.specs.declared.refusal.Rule.{Rule}
use Rattle.a68_base.specs.declared.refusal.Rule.TheVariants.{S2, L1, L2}
use Rattle.a68_base.specs.declared.refusal.Stop.{Stop}
use Rattle.a68_base.specs.declared.refusal.Stop.TheVariants.{Refused, NoMemory}
use Rattle.a68_symbols.specs.declared.form.StretchForm.{StretchForm}
use Rattle.a68_symbols.specs.declared.form.Given.{Given}
use Rattle.a68_symbols.specs.declared.form.Given.TheVariants as given
use Rattle.a68_symbols.specs.declared.symbol.SymbolKind.{SymbolKind}
use Rattle.a68_symbols.specs.declared.symbol.Symbol.{Symbol}
use Rattle.a68_symbols.specs.Forms.{Longest, NoForm}
use Rattle.a68_symbols.specs.Gives.{gives}
use Rattle.a68_symbols.specs.Limits.{most_bytes, most_symbols}
use Rattle.a68_symbols.specs.Names.{Named, AreNamed}
use Rattle.a68_symbols.specs.Words.{is_long}

-- a symbol without its name: its kind, and its stretch of the text
pub record Piece : Type 0 where
  pub kind : SymbolKind
  pub span : Span

abbrev pub piece_of : Symbol → Piece
piece_of s = record { kind = s.kind; span = s.span }

-- What the front of a text gives, and how many bytes do: its longest stretch, or the refusal of a byte at which no
-- stretch has a form. `long` is true where the symbol before is LONG.
pub data Front : Bool → List ℕ → Given → ℕ → Type 0 where
  front_none : {long : Bool} {text : List ℕ} → 0 < length text → NoForm text → Front long text (given.Broken S2) 0
  front_is : {long : Bool} {text : List ℕ} {g : Given} {f : StretchForm} {n : ℕ} → Longest text f n → gives long f (take n text) ≡ g → Front long text g n

-- The text, which begins at byte `at` behind `before` symbols, the last of which is LONG or not, is cut into longest
-- stretches, to its end, and these give the symbols. Layout, comments and pragmats give none.
pub data IsCut : Bool → ℕ → ℕ → List ℕ → List Piece → Type 0 where
  cut_ended : {long : Bool} {at before : ℕ} → IsCut long at before [] []
  cut_passed : {long : Bool} {at before n : ℕ} {text : List ℕ} {more : List Piece}
      → Front long text given.Nothing n → IsCut long (at + n) before (drop n text) more → IsCut long at before text more
  cut_taken : {long : Bool} {at before n : ℕ} {text : List ℕ} {kind : SymbolKind} {more : List Piece}
      → Front long text (given.Symbol kind) n → before < most_symbols → IsCut (is_long kind (take n text)) (at + n) (before + 1) (drop n text) more
      → IsCut long at before text (record { kind = kind; span = record { from = at; to = at + n } } ∷ more)

-- The first byte at which no list can go on, and the rule that is broken there: what stands there breaks it, or it is
-- one symbol too many.
pub data StopsAt : Bool → ℕ → ℕ → List ℕ → Rule → ℕ → Type 0 where
  stop_broken : {long : Bool} {at before n : ℕ} {text : List ℕ} {rule : Rule} → Front long text (given.Broken rule) n → StopsAt long at before text rule at
  stop_full : {long : Bool} {at before n : ℕ} {text : List ℕ} {kind : SymbolKind}
      → Front long text (given.Symbol kind) n → most_symbols ≤ before → StopsAt long at before text L2 at
  stop_passed : {long : Bool} {at before n place : ℕ} {text : List ℕ} {rule : Rule}
      → Front long text given.Nothing n → StopsAt long (at + n) before (drop n text) rule place → StopsAt long at before text rule place
  stop_taken : {long : Bool} {at before n place : ℕ} {text : List ℕ} {kind : SymbolKind} {rule : Rule}
      → Front long text (given.Symbol kind) n → before < most_symbols → StopsAt (is_long kind (take n text)) (at + n) (before + 1) (drop n text) rule place
      → StopsAt long at before text rule place

-- the text has these symbols
abbrev pub HasSymbols : List ℕ → List Piece → Type 0
HasSymbols text pieces = (length text ≤ most_bytes) × IsCut false 0 0 text pieces

-- the text breaks this rule of symbols first, at this place
pub data IsRefused (text : List ℕ) : Rule → ℕ → Type 0 where
  too_long : most_bytes < length text → IsRefused text L1 most_bytes
  stopped : {rule : Rule} {place : ℕ} → length text ≤ most_bytes → StopsAt false 0 0 text rule place → IsRefused text rule place

-- these symbols and no others, and no refusal
pub record SymbolsAre (text : List ℕ) (pieces : List Piece) : Type 0 where
  pub has : HasSymbols text pieces
  pub only : (others : List Piece) → HasSymbols text others → others ≡ pieces
  pub fine : (rule : Rule) (place : ℕ) → IsRefused text rule place → ⊥

-- this refusal and no other, and no symbols
pub record RefusalIs (text : List ℕ) (rule : Rule) (place : ℕ) : Type 0 where
  pub refused : IsRefused text rule place
  pub only : (other : Rule) (at : ℕ) → IsRefused text other at → (other ≡ rule) × (at ≡ place)
  pub none : (pieces : List Piece) → HasSymbols text pieces → ⊥

-- what the symbols of a text are answered with
abbrev pub Answers : List ℕ → Result Named Stop → Type 0
Answers text (Ok found) = SymbolsAre text (map piece_of found.symbols)
Answers text (Err (Refused refusal)) = RefusalIs text refusal.rule refusal.place
Answers text (Err NoMemory) = Unit {0}

-- what is taken in of a text: its symbols with their names; or its refusal
abbrev pub Collects : List ℕ → Named → Result (Unit {0}) Stop → Type 0
Collects text found (Ok done) = SymbolsAre text (map piece_of found.symbols) × AreNamed text found
Collects text found (Err (Refused refusal)) = RefusalIs text refusal.rule refusal.place
Collects text found (Err NoMemory) = Unit {0}
