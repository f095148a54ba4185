-- A text that is laid out anew has the same symbols.
use Rattle.std.specs.Prelude.{◌≡◌, ◌≤◌, ℕ, List, Option, length, map}
use Rattle.a68_lister.specs.Layout.{listed, spellings_in, spelling_in}
use Rattle.a68_parse.specs.Parses.{IsTree}
use Rattle.a68_symbols.specs.Limits.{most_bytes}
use Rattle.a68_symbols.specs.Names.{Named, Spelled, AreNamed}
use Rattle.a68_symbols.specs.Symbols.{SymbolsAre, piece_of}
use Rattle.a68_symbols.specs.declared.symbol.Symbol.{Symbol}
use Rattle.a68_tree.specs.declared.node.Node.{Node}
use Rattle.a68_words.specs.declared.class.Class.{Class}

-- the kinds and the spellings of the symbols of a text, in order
abbrev pub spelled_symbols : Named → List Spelled
spelled_symbols found = map (λ (s : Symbol). let x : Spelled = record { kind = s.kind; bytes = spelling_in found s } in x) found.symbols

-- The text laid out anew has these symbols, of the same kinds and spellings one by one; so laid out once more it is the same.
pub record Relists (found : Named) : Type 0 where
  pub again : Named
  pub symbols : SymbolsAre (listed (spellings_in found)) (map piece_of again.symbols)
  pub named : AreNamed (listed (spellings_in found)) again
  pub same : spelled_symbols again ≡ spelled_symbols found
  pub still : listed (spellings_in again) ≡ listed (spellings_in found)

-- A text whose symbols have a tree has them again where it is laid out anew and is no longer than a text may be. The tree is
-- needed: two tags that only a comment parts would run together, and no tree has two such.
abbrev pub Relisting : Type 0
Relisting = (text : List ℕ) (found : Named) → SymbolsAre text (map piece_of found.symbols) → AreNamed text found
    → (classes : List (Option Class)) (list : List Node) → length classes ≡ length found.symbols → IsTree found classes list
    → length (listed (spellings_in found)) ≤ most_bytes → Relists found
