-- The nodes of a tree as a list.
use Rattle.std.specs.Prelude.{◌≡◌, ℕ, ◌<◌, ◌^◌, List, [], ◌∷◌, length, slice_get, Some}
use Rattle.a68_tree.specs.declared.kind.NodeKind.{NodeKind}
use Rattle.a68_tree.specs.declared.node.Node.{Node}
use Rattle.a68_tree.specs.Forest.{Forest, end, part}
use Rattle.a68_tree.specs.Nodes.{Entry, nodes, turned}

-- the nodes of a tree in order, the spellings by their numbers, and the first bytes of all symbols in order
pub record Built : Type 0 where
  pub nodes : List Node
  pub spellings : List (List ℕ)
  pub starts : List ℕ

-- all parts stand behind place i, and before the end
abbrev pub AllBetween : ℕ → ℕ → List ℕ → Type 0
AllBetween i count [] = Unit {0}
AllBetween i count (p ∷ ps) = (i < p) × (p < count) × AllBetween i count ps

-- What a tree keeps: a first node, no more nodes than have numbers, parts that stand behind their node, and a spelling for each name.
pub record IsSound (list : List Node) (spellings : ℕ) : Type 0 where
  pub some : 0 < length list
  pub few : length list < 2 ^ 32
  pub behind : (i : ℕ) (n : Node) → slice_get list i ≡ Some n → AllBetween i (length list) n.parts
  pub named : (i : ℕ) (n : Node) → slice_get list i ≡ Some n → n.name < spellings

-- all entries of a forest under one node, the node first
abbrev pub entries : NodeKind → Forest → List Entry
entries k u = turned (nodes [] [] (part k u end) [])
