-- What each node of a tree means, and the rule that it breaks (Report, 3 to 5, 6.1 and 7; the order of the rules is own).
use Rattle.std.specs.Prelude.{◌≡◌, ◌≤◌, ℕ, List, length, Some, None}
use Rattle.a68_base.specs.declared.limits.TheConstants.{MOST_MODES}
use Rattle.a68_base.specs.declared.refusal.Refusal.{Refusal}
use Rattle.a68_base.specs.declared.refusal.Rule.TheVariants.{O2}
use Rattle.a68_declare.specs.Outcome.{AreModesOf, ByNode, IsFirstBroken}
use Rattle.a68_definitions.specs.Defined.{AllBelow, AreDefined}
use Rattle.a68_definitions.specs.Tags.{AreTags}
use Rattle.a68_identify.specs.Operators.{NumbersAreThere, IsRelatedPair}
use Rattle.a68_mode_table.specs.Growing.{AreSound}
use Rattle.a68_modes.specs.declared.shape.Shape.{Shape}
use Rattle.a68_positions.specs.Positions.{ArePositions}
use Rattle.a68_ranges.specs.Indexed.{IsLeast}
use Rattle.a68_ranges.specs.Nodes.{place_at}
use Rattle.a68_refusals.specs.First.{Asked, IsFirstRefused}
use Rattle.a68_refusals.specs.Order.{rule_of}
use Rattle.a68_refusals.specs.declared.turn.Broken.{Broken}
use Rattle.a68_tree.specs.Trees.{Built}
use Rattle.a68_yields.specs.Below.{AreTablesBelow}
use Rattle.a68_yields.specs.Yields.{AreYields}

-- no range declares two related operators
abbrev pub AreUnrelated : Built → List Shape → ByNode → Type 0
AreUnrelated tree modes of = (later : ℕ) → IsRelatedPair tree modes of later → ⊥

-- The modes of the declarers of a tree, which are sound.
pub record AreSoundModes (tree : Built) (of : ByNode) (modes : List Shape) : Type 0 where
  pub are : AreModesOf tree modes of
  pub sound : AreSound modes
  pub unrelated : AreUnrelated tree modes of

-- What is known of a tree once it is known what is asked of each node. Modes join those of the declarers in three steps: those of definitions,
-- those of what nodes yield, and those that are asked for.
pub record IsMeaning (of : ByNode) (a : Asked) : Type 0 where
  pub declared : List Shape
  pub modes : AreSoundModes a.tree of declared
  pub tags : AreTags a.tree a.tags
  pub named : List Shape
  pub defined : AreDefined a.tree of declared named a.defined
  pub yielded : List Shape
  pub yields : AreYields (record { tree = a.tree; tags = a.tags; of = of; defined = a.defined }) named yielded a.ys a.fs
  pub there : NumbersAreThere a.tree yielded of
  pub below : AllBelow (length yielded) a.defined
  pub tables : AreTablesBelow (length yielded) (length a.tree.nodes) a.ys a.fs
  pub positions : ArePositions (record { tree = a.tree; tags = a.tags; of = of; defined = a.defined }) a.ys a.fs yielded a.nodes a.ps
  pub room : length a.nodes ≤ MOST_MODES

-- the meaning of a tree that breaks no rule
pub record IsUnbroken (of : ByNode) (a : Asked) : Type 0 where
  pub is : IsMeaning of a
  pub none : IsFirstRefused a None

-- The rule that a tree breaks: what its declarers break; else two related operators of one range, at the later one that stands first in the text;
-- else what its nodes break.
pub data IsMisused (tree : Built) (refusal : Refusal) : Type 0 where
  declarer : IsFirstBroken tree refusal → IsMisused tree refusal
  related : (modes : List Shape) (of : ByNode) (later : ℕ) → AreModesOf tree modes of → IsLeast tree (IsRelatedPair tree modes of) (Some later)
      → refusal.rule ≡ O2 → refusal.place ≡ place_at tree later → IsMisused tree refusal
  node : (of : ByNode) (a : Asked) (b : Broken) → a.tree ≡ tree → IsMeaning of a → IsFirstRefused a (Some b) → refusal.rule ≡ rule_of b.rule
      → refusal.place ≡ b.place → IsMisused tree refusal
