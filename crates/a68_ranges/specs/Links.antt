-- Layers, each of which leads to earlier ones (own).
use Rattle.std.specs.Prelude.{◌≡◌, ◌<◌, ◌||◌, ℕ, Bool, true, false, nat_lt, List, [], ◌∷◌, ◌++◌, length, slice_get, Option, Some, None, if◌then◌else◌}
use Rattle.a68_ranges.specs.Definitions.{declared_in}
use Rattle.a68_ranges.specs.Nodes.{kind_at}
use Rattle.a68_ranges.specs.declared.nests.Layer.{Layer}
use Rattle.a68_tree.specs.Trees.{Built}
use Rattle.a68_tree.specs.declared.kind.NodeKind.{NodeKind}
use Rattle.a68_tree.specs.declared.kind.NodeKind.TheVariants as kind

-- ---- which ranges have layers

abbrev pub is_routine_text : NodeKind → Bool
is_routine_text kind.RoutineText = true
is_routine_text _ = false

-- A range has a layer where it declares something. A routine text always has one, since a call enters a frame.
unfoldable pub has_layer : Built → (range : ℕ) → Bool
has_layer tree range = is_routine_text (kind_at tree range) || nat_lt 0 (length (declared_in tree range))

-- those of these ranges that have layers
abbrev pub layered : Built → List ℕ → List ℕ
layered tree [] = []
layered tree (range ∷ ranges) = if has_layer tree range then range ∷ layered tree ranges else layered tree ranges

-- ---- how layers lie

-- the layer is there, and has a number below the bound
abbrev pub IsBelow : (bound : ℕ) → Option ℕ → Type 0
IsBelow bound None = Unit {0}
IsBelow bound (Some i) = i < bound

-- layers lead outwards to earlier ones
pub record LayersAreLinked (about : List (Option ℕ)) (layers : List Layer) : Type 0 where
  pub out : (i : ℕ) (layer : Layer) → slice_get layers i ≡ Some layer → IsBelow i layer.outer
  pub there : (at : ℕ) (nest : Option ℕ) → slice_get about at ≡ Some nest → IsBelow (length layers) nest

-- layers with these ranges added inside another one, and the number of the innermost
abbrev mutual
  pub with_layers : List Layer → List ℕ → (outer : Option ℕ) → List Layer
  with_layers layers [] outer = layers
  with_layers layers (range ∷ ranges) outer = with_layers layers ranges outer ++ record { range = range; outer = innermost layers ranges outer } ∷ []

  pub innermost : List Layer → List ℕ → (outer : Option ℕ) → Option ℕ
  innermost layers [] outer = outer
  innermost layers (range ∷ ranges) outer = Some (length (with_layers layers ranges outer))

-- the layers have these ranges added inside another one, as far as they have layers, and that is the innermost
pub record AreEntered (tree : Built) (old new : List Layer) (ranges : List ℕ) (outer nest : Option ℕ) : Type 0 where
  pub layers : new ≡ with_layers old (layered tree ranges) outer
  pub nest_is : nest ≡ innermost old (layered tree ranges) outer

-- what is there, as a list
abbrev pub listed : Option ℕ → List ℕ
listed None = []
listed (Some x) = x ∷ []
