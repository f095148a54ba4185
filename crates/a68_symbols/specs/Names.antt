-- The names of symbols: numbers of their spellings, in the order in which these are first seen.
use Rattle.std.specs.Prelude.{◌≡◌, ℕ, ◌-◌, ◌<◌, ◌≤◌, ◌↔◌, ◌⊎◌, List, [], ◌∷◌, ◌++◌, length, take, drop, map, slice_get, Some}
use Rattle.std.specs.Option.{option_map}
use Rattle.a68_base.specs.declared.refusal.Span.{Span}
use Rattle.a68_symbols.specs.declared.symbol.SymbolKind.{SymbolKind}
use Rattle.a68_symbols.specs.declared.symbol.SymbolKind.TheVariants.{Word, Tag, Number, BitsNumber, Quoted, Mark}
use Rattle.a68_symbols.specs.declared.symbol.Symbol.{Symbol}
use Rattle.a68_symbols.specs.declared.symbol.Spelling.{Spelling}
use Rattle.a68_symbols.specs.Bytes.{without_layout}
use Rattle.a68_symbols.specs.Limits.{most_symbols}

-- a kind of symbol and the bytes that spell it
pub record Spelled : Type 0 where
  pub kind : SymbolKind
  pub bytes : List ℕ

-- the symbols of a text in order, and the spellings by their numbers
pub record Named : Type 0 where
  pub symbols : List Symbol
  pub spellings : List Spelled

abbrev pub no_symbols : Named
no_symbols = record { symbols = []; spellings = [] }

-- each symbol's number is that of one of so many spellings
abbrev pub HaveNames : List Symbol → ℕ → Type 0
HaveNames symbols count = (i : ℕ) (s : Symbol) → slice_get symbols i ≡ Some s → s.name < count

-- each symbol is of the kind that its spelling has
abbrev pub HaveKinds : List Symbol → List Spelled → Type 0
HaveKinds symbols spellings =
    (i : ℕ) (s : Symbol) → slice_get symbols i ≡ Some s → option_map (λ (x : Spelled). x.kind) (slice_get spellings s.name) ≡ Some s.kind

-- a spelling as the code has it
abbrev pub spelled_of : Spelling → Spelled
spelled_of s = record { kind = s.kind; bytes = s.bytes.items }

-- What a list of symbols keeps: no more symbols than a text may have, no more spellings than symbols, and a spelling of its
-- kind for each symbol.
pub record IsSound (symbols : List Symbol) (spellings : List Spelling) : Type 0 where
  pub few : length symbols ≤ most_symbols
  pub fewer : length spellings ≤ length symbols
  pub named : HaveNames symbols (length spellings)
  pub kinds : HaveKinds symbols (map spelled_of spellings)

-- what spells a stretch: all of a string; of any other symbol what is no layout
abbrev pub spelling_of : SymbolKind → List ℕ → List ℕ
spelling_of Word s = without_layout s
spelling_of Tag s = without_layout s
spelling_of Number s = without_layout s
spelling_of BitsNumber s = without_layout s
spelling_of Quoted s = s
spelling_of Mark s = without_layout s

-- the bytes of a text in a span
abbrev pub stretch_of : List ℕ → Span → List ℕ
stretch_of text span = take (span.to - span.from) (drop span.from text)

-- the kind and the spelling of a symbol of a text
abbrev pub spelled_in : List ℕ → Symbol → Spelled
spelled_in text s = record { kind = s.kind; bytes = spelling_of s.kind (stretch_of text s.span) }

-- The numbers of the symbols of a text.
pub record AreNamed (text : List ℕ) (found : Named) : Type 0 where
  -- a symbol's number is that of its kind and spelling
  pub own : (i : ℕ) (s : Symbol) → slice_get found.symbols i ≡ Some s → slice_get found.spellings s.name ≡ Some (spelled_in text s)
  -- two symbols have one number exactly where their kinds and their spellings are equal
  pub one : (i j : ℕ) (s r : Symbol) → slice_get found.symbols i ≡ Some s → slice_get found.symbols j ≡ Some r
      → (s.name ≡ r.name) ↔ (spelled_in text s ≡ spelled_in text r)
  -- numbers are given in the order of first use: every smaller one is that of an earlier symbol
  pub order : (i : ℕ) (s : Symbol) → slice_get found.symbols i ≡ Some s → (n : ℕ) → n < s.name
      → (j : ℕ) × (r : Symbol) × (j < i) × (slice_get found.symbols j ≡ Some r) × (r.name ≡ n)
  -- every spelling is that of a symbol
  pub used : (n : ℕ) → n < length found.spellings → (j : ℕ) × (r : Symbol) × (slice_get found.symbols j ≡ Some r) × (r.name ≡ n)

-- one symbol more, under the number that its spelling has or gets
pub record Adds (old new : Named) (kind : SymbolKind) (span : Span) (key : Spelled) : Type 0 where
  pub name : ℕ
  pub symbols : new.symbols ≡ old.symbols ++ record { kind = kind; span = span; name = name } ∷ []
  pub spellings : ((slice_get old.spellings name ≡ Some key) × (new.spellings ≡ old.spellings))
      ⊎ ((name ≡ length old.spellings) × (new.spellings ≡ old.spellings ++ key ∷ []) × ((i : ℕ) → slice_get old.spellings i ≡ Some key → ⊥))
