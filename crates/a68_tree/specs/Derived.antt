-- The tree of a list of symbols.
use Rattle.std.specs.Prelude.{◌≡◌, List, [], map}
use Rattle.a68_symbols.specs.declared.symbol.Symbol.{Symbol}
use Rattle.a68_tree.specs.declared.kind.NodeKind.{NodeKind}
use Rattle.a68_tree.specs.declared.node.Node.{Node}
use Rattle.a68_symbols.specs.declared.sym.Sym.{Sym}
use Rattle.a68_tree.specs.Forest.{Forest, spells}
use Rattle.a68_tree.specs.Grammar.{IsEnclosed}
use Rattle.a68_tree.specs.Nodes.{node_of}
use Rattle.a68_tree.specs.Trees.{entries}

-- The nodes of a derivation by the grammar of a text, which is these symbols as the grammar tells them apart.
pub record IsDerived (symbols : List Symbol) (text : List Sym) (list : List Node) : Type 0 where
  pub kind : NodeKind
  pub under : Forest
  pub is : IsEnclosed kind under
  pub spelled : text ≡ spells under []
  pub listed : list ≡ map (node_of symbols) (entries kind under)
