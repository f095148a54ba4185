-- The definitions of the tags that a tree applies (Report, 4.8.1 and 7.2.1).
use Rattle.std.specs.Prelude.{◌≡◌, ◌<◌, ◌-◌, ℕ, Bool, true, false, List, length, slice_get, slice_index_or, nat_lt, ◌||◌, Option, Some, None, if◌then◌else◌}
use Rattle.a68_ranges.specs.declared.tags.TheConstants as tags
use Rattle.a68_ranges.specs.Nodes.{kind_at, name_at, parts_at}
use Rattle.a68_ranges.specs.Standard.{IsTagOf}
use Rattle.a68_tree.specs.Trees.{Built}
use Rattle.a68_tree.specs.declared.kind.NodeKind.{NodeKind}
use Rattle.a68_tree.specs.declared.kind.NodeKind.TheVariants as kind

-- a node that applies a tag: the tag alone, or a jump to it
abbrev pub applies_tag : NodeKind → Bool
applies_tag kind.Tag = true
applies_tag kind.GoTo = true
applies_tag _ = false

-- a label is defined by what is no value
abbrev pub is_label : NodeKind → Bool
is_label kind.Label = true
is_label _ = false

abbrev pub is_label_at : Built → (definition : ℕ) → Bool
is_label_at tree d = is_label (kind_at tree d)

-- the definition of a node that applies a tag, if it has one; none of another node
abbrev pub IsTagAt : Built → (n : ℕ) → (applies : Bool) → Option ℕ → Type 0
IsTagAt tree n true found = IsTagOf tree n (name_at tree n) found
IsTagAt tree n false found = found ≡ None

-- the definitions of the nodes before one
pub record AreTagsBefore (tree : Built) (count : ℕ) (tags : List (Option ℕ)) : Type 0 where
  pub long : length tags ≡ count
  pub each : (n : ℕ) → n < count → IsTagAt tree n (applies_tag (kind_at tree n)) (slice_index_or tags n None)

-- the definitions of the tags that all nodes apply; a standard tag has a number from that of the nodes upwards
abbrev pub AreTags : Built → List (Option ℕ) → Type 0
AreTags tree tags = AreTagsBefore tree (length tree.nodes) tags

-- the place of a standard tag among these; none of a tag of the text
abbrev pub standard_place : (nodes definition : ℕ) → Option ℕ
standard_place nodes definition = if nat_lt definition nodes then None else Some (definition - nodes)

abbrev pub standard_place_of : (nodes : ℕ) → Option ℕ → Option ℕ
standard_place_of nodes None = None
standard_place_of nodes (Some definition) = standard_place nodes definition

-- print, write and whole are called, and have no mode (10.3.3 and 10.3.2.1; own form)
abbrev pub if_called : Option ℕ → Option ℕ
if_called None = None
if_called (Some place) = if nat_lt place tags.PRINT || nat_lt tags.WHOLE place then None else Some place

-- the place of the tag of the standard environ that a node applies, where it is one that is only called
abbrev pub called_tag : Built → List (Option ℕ) → (n : ℕ) → Option ℕ
called_tag tree tags n = if_called (standard_place_of (length tree.nodes) (slice_index_or tags n None))

abbrev pub called_tag_of : Built → List (Option ℕ) → Option ℕ → Option ℕ
called_tag_of tree tags None = None
called_tag_of tree tags (Some p) = called_tag tree tags p

-- the same of the first part of a node
abbrev pub called_by : Built → List (Option ℕ) → (n : ℕ) → Option ℕ
called_by tree tags n = called_tag_of tree tags (slice_get (parts_at tree n) 0)
