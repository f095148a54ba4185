-- Inner: the headline does not rest on this file.
-- What the symbols of a text keep.
use Rattle.std.specs.Prelude.{◌≡◌, List, map}
use Rattle.a68_symbols.specs.declared.sym.Sym.{Sym}
use Rattle.a68_symbols.specs.declared.symbol.Symbol.{Symbol}
use Rattle.a68_symbols.specs.declared.symbol.Spelling.{Spelling}
use Rattle.a68_symbols.specs.Names.{IsSound}
use Rattle.a68_symbols.specs.Spellings.{sym_spelled}

-- the symbols of the grammar stand beside the spellings that they have
pub record IsKept (symbols : List Symbol) (spellings : List Spelling) (syms : List Sym) : Type 0 where
  pub sound : IsSound symbols spellings
  pub read : syms ≡ map sym_spelled spellings
