-- Inner: the headline does not rest on this file.
-- Symbols that layout does not part.
use Rattle.std.specs.Prelude.{◌≡◌, Bool, true, false, ◌&&◌, List, [], ◌∷◌, map}
use Rattle.a68_symbols.specs.Names.{Named}
use Rattle.a68_symbols.specs.declared.symbol.Symbol.{Symbol}
use Rattle.a68_symbols.specs.declared.symbol.SymbolKind.{SymbolKind}
use Rattle.a68_symbols.specs.declared.symbol.SymbolKind.TheVariants.{Tag, Number, BitsNumber}

-- a tag or a number, which goes on over layout
abbrev pub goes_on : SymbolKind → Bool
goes_on Tag = true
goes_on Number = true
goes_on BitsNumber = true
goes_on _ = false

-- no two of these stand side by side
abbrev pub Parted : List SymbolKind → Type 0
Parted [] = Unit {0}
Parted (k ∷ []) = Unit {0}
Parted (k ∷ j ∷ ks) = ((goes_on k && goes_on j) ≡ false) × Parted (j ∷ ks)

-- the kinds of the symbols of a text, in order
abbrev pub kinds_in : Named → List SymbolKind
kinds_in found = map (λ (s : Symbol). s.kind) found.symbols
