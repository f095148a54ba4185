-- From drafts to a tree.
use Rattle.std.specs.Prelude.{◌≡◌, ℕ, List, [], map}
use Rattle.a68_symbols.specs.Names.{Named, Spelled}
use Rattle.a68_symbols.specs.declared.symbol.Symbol.{Symbol}
use Rattle.a68_tree.specs.declared.kind.NodeKind.{NodeKind}
use Rattle.a68_tree.specs.Forest.{Forest}
use Rattle.a68_tree.specs.Nodes.{Entry, with_node}

-- The entries of a forest under one node.
pub record AreDrafted (es : List Entry) : Type 0 where
  pub kind : NodeKind
  pub under : Forest
  pub added : es ≡ with_node [] [] kind under []

-- the spellings are those of the symbols, by their numbers
abbrev pub SpellsAlike : Named → List (List ℕ) → Type 0
SpellsAlike found spellings = spellings ≡ map (λ (s : Spelled). s.bytes) found.spellings

-- these are the first bytes of the symbols, in order
abbrev pub AreStarts : Named → List ℕ → Type 0
AreStarts found starts = starts ≡ map (λ (s : Symbol). s.span.from) found.symbols
