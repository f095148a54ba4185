-- Inner: the headline does not rest on this file.
-- The symbols of a program with the definitions in front of it.
use Rattle.std.specs.Prelude.{◌≤◌, ℕ, ◌+◌, ◌*◌, List, [], ◌∷◌, ◌++◌, length, map}
use Rattle.a68_input.specs.Joining.{prelude, joined}
use Rattle.a68_input.specs.Lines.{HaveNoFeed, KeepLimits}
use Rattle.a68_symbols.specs.Limits.{most_bytes, most_symbols}
use Rattle.a68_symbols.specs.Symbols.{Piece, HasSymbols}
use Rattle.a68_symbols.specs.declared.symbol.SymbolKind.TheVariants.{Mark}

-- a symbol so many bytes further on
abbrev pub moved : (offset : ℕ) → Piece → Piece
moved offset piece = record { kind = piece.kind; span = record { from = offset + piece.span.from; to = offset + piece.span.to } }

-- the bracket that closes the clause, behind a program that ends at this byte
abbrev pub closing : (end : ℕ) → Piece
closing end = record { kind = Mark; span = record { from = end + 1; to = end + 2 } }

-- What stands in front of a program has symbols, few enough.
pub record HasFront (lines : List (List ℕ)) : Type 0 where
  pub front : List Piece
  pub has : HasSymbols (prelude lines) front
  pub few : length front ≤ 15 * length lines + 92

-- A law: it is so for all lines of an input that is not too long.
abbrev pub PreludesHaveSymbols : Type 0
PreludesHaveSymbols = (lines : List (List ℕ)) → KeepLimits lines → HasFront lines

-- The joined text has the symbols of what stands in front of the program, those of the program moved behind that, and the bracket.
pub record JoinsSymbols (text : List ℕ) (lines : List (List ℕ)) (pieces : List Piece) : Type 0 where
  pub front : List Piece
  pub of_front : HasSymbols (prelude lines) front
  pub of_all : HasSymbols (joined text lines) (front ++ (map (moved (length (prelude lines))) pieces ++ closing (length (prelude lines) + length text) ∷ []))

-- A law: it is so for every program that has symbols, where the whole keeps the limits.
abbrev pub SymbolsJoin : Type 0
SymbolsJoin = (text : List ℕ) (lines : List (List ℕ)) (pieces front : List Piece) → HasSymbols text pieces → HaveNoFeed lines → length (joined text lines) ≤ most_bytes
    → HasSymbols (prelude lines) front → length front + length pieces + 1 ≤ most_symbols → JoinsSymbols text lines pieces
