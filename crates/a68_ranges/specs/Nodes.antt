-- Nodes of a tree, as the definitions of ranges read them (own).
use Rattle.std.specs.Prelude.{◌≡◌, ◌<◌, ℕ, List, [], length, slice_get, Option, Some}
use Rattle.std.specs.Option.{option_map_or}
use Rattle.a68_tree.specs.Trees.{Built}
use Rattle.a68_tree.specs.declared.kind.NodeKind.{NodeKind}
use Rattle.a68_tree.specs.declared.kind.NodeKind.TheVariants as kind
use Rattle.a68_tree.specs.declared.node.Node.{Node}

abbrev pub node_at : Built → ℕ → Option Node
node_at tree id = slice_get tree.nodes id

abbrev pub parts_at : Built → ℕ → List ℕ
parts_at tree id = option_map_or (λ (n : Node). n.parts) (node_at tree id) []

-- the kind of a node; a number of no node has that of a skip
abbrev pub kind_at : Built → ℕ → NodeKind
kind_at tree id = option_map_or (λ (n : Node). n.kind) (node_at tree id) kind.Skip

abbrev pub name_at : Built → ℕ → ℕ
name_at tree id = option_map_or (λ (n : Node). n.name) (node_at tree id) 0

-- the byte at which a node begins; a definition begins at its tag, word or sign
abbrev pub place_at : Built → ℕ → ℕ
place_at tree id = option_map_or (λ (n : Node). n.span.from) (node_at tree id) 0

abbrev pub spelling_at : Built → ℕ → Option (List ℕ)
spelling_at tree id = slice_get tree.spellings (name_at tree id)

-- p is the part of n at place k
abbrev pub IsPartAt : Built → (n k p : ℕ) → Type 0
IsPartAt tree n k p = (n < length tree.nodes) × (slice_get (parts_at tree n) k ≡ Some p)

-- p is a part of n
abbrev pub IsPart : Built → (n p : ℕ) → Type 0
IsPart tree n p = (k : ℕ) × IsPartAt tree n k p

-- d is a, or stands within it
pub data StandsWithin (tree : Built) (a : ℕ) : ℕ → Type 0 where
  itself : StandsWithin tree a a
  part : {n p : ℕ} → StandsWithin tree a n → IsPart tree n p → StandsWithin tree a p
