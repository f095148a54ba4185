-- Operators that a text defines (Report, 4.5), and pairs of them that one range may not have (7.1.1; the form is own).
use Rattle.std.specs.Prelude.{◌≡◌, ◌<◌, ◌&&◌, ℕ, List, [], ◌∷◌, map, nat_eq, slice_get, slice_index_or, take, length, Option, Some, None, Bool, true, false, if◌then◌else◌}
use Rattle.std.specs.List.{All, Contains}
use Rattle.a68_declare.specs.Outcome.{ByNode}
use Rattle.a68_declarers.specs.Shapes.{front}
use Rattle.a68_equiv.specs.Related.{AreRelated}
use Rattle.a68_identify.specs.Pairs.{Pairwise}
use Rattle.a68_modes.specs.declared.shape.Shape.{Shape}
use Rattle.a68_ranges.specs.Definitions.{declared_in}
use Rattle.a68_ranges.specs.Nodes.{kind_at, name_at, parts_at}
use Rattle.a68_tree.specs.Trees.{Built}
use Rattle.a68_tree.specs.declared.kind.NodeKind.{NodeKind}
use Rattle.a68_tree.specs.declared.kind.NodeKind.TheVariants as kind

abbrev pub is_operator_definition : NodeKind → Bool
is_operator_definition kind.OpDefinition = true
is_operator_definition _ = false

abbrev pub is_parameter : NodeKind → Bool
is_parameter kind.Parameter = true
is_parameter _ = false

-- the node defines an operator of that sign
abbrev pub defines_sign : Built → (sign definition : ℕ) → Bool
defines_sign tree sign definition = is_operator_definition (kind_at tree definition) && nat_eq (name_at tree definition) sign

-- ---- the modes of its parameters

-- the declarers of the Parameters among these parts of a routine text, in order: of each the nearest declarer before it
abbrev pub declarers_among : Built → (declarer : ℕ) → List ℕ → List ℕ
declarers_among tree d [] = []
declarers_among tree d (p ∷ ps) = if is_parameter (kind_at tree p) then d ∷ declarers_among tree d ps else declarers_among tree p ps

-- the declarers of the parameters that a Plan or a RoutineText has
unfoldable pub declarers_of : Built → ℕ → NodeKind → List ℕ
declarers_of tree n kind.Plan = front (parts_at tree n)
declarers_of tree n kind.RoutineText = declarers_among tree n (parts_at tree n)
declarers_of tree n _ = []

abbrev pub declarers_at : Built → Option ℕ → List ℕ
declarers_at tree None = []
declarers_at tree (Some n) = declarers_of tree n (kind_at tree n)

-- the mode of a declarer, without FLEX
abbrev pub mode_at : ByNode → (declarer : ℕ) → ℕ
mode_at of d = slice_index_or of.without_flex d 0

-- the modes of the parameters of an operator: its first part is a Plan, or the RoutineText itself
abbrev pub operand_modes : Built → ByNode → (definition : ℕ) → List ℕ
operand_modes tree of definition = map (mode_at of) (declarers_at tree (slice_get (parts_at tree definition) 0))

-- ---- related operators

-- two definitions of one sign with as many parameters, each of the one firmly related to its like of the other
pub record AreRelatedOperators (tree : Built) (nodes : List Shape) (of : ByNode) (one other : ℕ) : Type 0 where
  pub sign : ℕ
  pub one_is : defines_sign tree sign one ≡ true
  pub other_is : defines_sign tree sign other ≡ true
  pub related : Pairwise (AreRelated nodes) (operand_modes tree of one) (operand_modes tree of other)

-- a definition of that sign whose parameters are related to these modes
abbrev pub IsRelatedTo : Built → List Shape → ByNode → (sign : ℕ) → (others : List ℕ) → (one : ℕ) → Type 0
IsRelatedTo tree nodes of sign others one = (defines_sign tree sign one ≡ true) × Pairwise (AreRelated nodes) (operand_modes tree of one) others

-- the definition stands at a place of the list, and a related one stands before it
pub record IsRelatedAt (tree : Built) (nodes : List Shape) (of : ByNode) (list : List ℕ) (place later : ℕ) : Type 0 where
  pub is : slice_get list place ≡ Some later
  pub earlier : ℕ
  pub before : Contains (take place list) earlier
  pub related : AreRelatedOperators tree nodes of earlier later

-- an operator definition that a related one precedes in its range
pub record IsRelatedPair (tree : Built) (nodes : List Shape) (of : ByNode) (later : ℕ) : Type 0 where
  pub range : ℕ
  pub place : ℕ
  pub related : IsRelatedAt tree nodes of (declared_in tree range) place later

-- at a place before the end
abbrev pub IsRelatedIn : Built → List Shape → ByNode → List ℕ → (end later : ℕ) → Type 0
IsRelatedIn tree nodes of list end later = (place : ℕ) × (place < end) × IsRelatedAt tree nodes of list place later

-- in a range before that one
abbrev pub IsRelatedBefore : Built → List Shape → ByNode → (count later : ℕ) → Type 0
IsRelatedBefore tree nodes of count later = (range : ℕ) × (range < count) × IsRelatedIn tree nodes of (declared_in tree range) (length (declared_in tree range)) later

-- ---- what callers have

-- each node of the tree has two numbers, and that without FLEX is the number of a mode
pub record NumbersAreThere (tree : Built) (nodes : List Shape) (of : ByNode) : Type 0 where
  pub long : length of.as_they_stand ≡ length tree.nodes
  pub fixed_long : length of.without_flex ≡ length tree.nodes
  pub there : All (λ m. m < length nodes) of.without_flex

-- ---- the modes of all parameters, listed once

-- the modes by node, and for each node the modes of the parameters of the operator that it defines
pub record Listed : Type 0 where
  pub of : ByNode
  pub lists : List (List ℕ)

-- the lists of the nodes before one
pub record AreListedBefore (tree : Built) (of : ByNode) (count : ℕ) (lists : List (List ℕ)) : Type 0 where
  pub long : length lists ≡ count
  pub each : (definition : ℕ) → definition < count → slice_get lists definition ≡ Some (operand_modes tree of definition)

-- the lists of all nodes of a tree
abbrev pub AreListed : Built → Listed → Type 0
AreListed tree modes = AreListedBefore tree modes.of (length tree.nodes) modes.lists
