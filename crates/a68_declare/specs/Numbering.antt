-- Inner: the headline does not rest on this file.
-- The classes of modes, numbered in the order of their first modes (own).
use Rattle.std.specs.Prelude.{◌≡◌, ◌<◌, ◌≤◌, ◌++◌, ◌∷◌, [], ◌↔◌, nat_eq, ℕ, List, Option, Some, None, length, map, slice_index_or}
use Rattle.std.specs.List.{IsDistinct, Contains}
use Rattle.std.specs.Map.{lookup}
use Rattle.a68_declare.specs.Clean.{IsImage, IsNode, IsRising}
use Rattle.a68_declarers.specs.Numbers.{twin_of}
use Rattle.a68_equiv.specs.Classes.{class_of}
use Rattle.a68_equiv.specs.Related.{as_it_stands, without_flex}
use Rattle.a68_equiv.specs.Unfolding.{unfolded, Equivalent}
use Rattle.a68_modes.specs.Nodes.{shape_at}
use Rattle.a68_modes.specs.declared.shape.Shape.{Shape}
use Rattle.a68_modes.specs.declared.shape.Shape.TheVariants.{Union, Blank}
use Rattle.a68_modes.specs.declared.standard.TheConstants.{STANDARD}

-- the class of a node's mode as it stands
abbrev pub class_at : List ℕ → ℕ → ℕ
class_at classes m = class_of classes (as_it_stands m)

-- the number of a class in a table
abbrev pub at_class : List (ℕ × ℕ) → ℕ → Option ℕ
at_class table class = lookup (λ k. nat_eq class k) table

-- a mode of this class gets the number that the class has, or else the next one, of which it is the first mode
abbrev pub IsNumberOf : (old new : List (ℕ × ℕ)) → (firsts grown : List ℕ) → (class m number : ℕ) → Option ℕ → Type 0
IsNumberOf old new firsts grown class m number (Some j) = (new ≡ old) × (grown ≡ firsts) × (number ≡ j)
IsNumberOf old new firsts grown class m number None =
    (grown ≡ firsts ++ m ∷ []) × (number ≡ length firsts) × (at_class new class ≡ Some (length firsts))
    × ((c : ℕ) → (c ≡ class → ⊥) → at_class new c ≡ at_class old c)

-- the number of each node, and the first node of each number
pub record IsNumbering (nodes : List Shape) (to firsts : List ℕ) : Type 0 where
  pub long : length to ≡ length nodes
  pub there : (m : ℕ) → m < length nodes → slice_index_or to m 0 < length firsts
  pub firsts_there : (j : ℕ) → j < length firsts → slice_index_or firsts j 0 < length nodes
  pub back : (j : ℕ) → j < length firsts → slice_index_or to (slice_index_or firsts j 0) 0 ≡ j
  pub same : (a b : ℕ) → a < length nodes → b < length nodes → (slice_index_or to a 0 ≡ slice_index_or to b 0) ↔ Equivalent nodes (as_it_stands a) (as_it_stands b)
  pub standard : (m : ℕ) → m < STANDARD → slice_index_or to m 0 ≡ m
  pub enough : STANDARD ≤ length firsts
  pub few : length firsts ≤ length nodes
  pub in_order : (m j : ℕ) → m < length nodes → j < slice_index_or to m 0 → (a : ℕ) × (a < m) × (slice_index_or to a 0 ≡ j)

-- the number of a node, by the numbers of all
abbrev pub number_in : List ℕ → ℕ → ℕ
number_in to m = slice_index_or to m 0

-- these are the numbers of those modes, in any order
abbrev pub AreImagesOf : (to modes images : List ℕ) → Type 0
AreImagesOf to modes images = (y : ℕ) → Contains images y ↔ ((x : ℕ) × Contains modes x × (number_in to x ≡ y))

-- the members of a union stand once each
abbrev pub AreOnce : Shape → Type 0
AreOnce (Union members) = IsDistinct nat_eq members
AreOnce shape = Unit {0}

-- the shape of a class, from its first node
pub record IsShapeFrom (nodes : List Shape) (to : List ℕ) (m : ℕ) (shape : Shape) : Type 0 where
  pub image : IsImage nodes (number_in to) m (unfolded nodes m) shape
  pub once : AreOnce shape

-- the nodes before one are numbered
pub record NodesAreNumbered (nodes : List Shape) (classes : List ℕ) (count : ℕ) (table : List (ℕ × ℕ)) (to firsts : List ℕ) : Type 0 where
  pub long : length to ≡ count
  pub few : length firsts ≤ count
  -- each class that is met is in the table
  pub found : (m : ℕ) → m < count → at_class table (class_at classes m) ≡ Some (slice_index_or to m 0)
  -- what is in the table is the class of a first node
  pub only : (class j : ℕ) → at_class table class ≡ Some j → (j < length firsts) × (class_at classes (slice_index_or firsts j 0) ≡ class)
  pub first : (j : ℕ) → j < length firsts → (slice_index_or firsts j 0 < count) × (slice_index_or to (slice_index_or firsts j 0) 0 ≡ j)
  -- no two standard nodes have one class
  pub standard : (m : ℕ) → m < count → m < STANDARD → slice_index_or to m 0 ≡ m
  pub begun : count ≤ STANDARD → length firsts ≡ count
  pub enough : STANDARD ≤ count → STANDARD ≤ length firsts
  pub in_order : (m j : ℕ) → m < count → j < slice_index_or to m 0 → (a : ℕ) × (a < m) × (slice_index_or to a 0 ≡ j)

-- the nodes behind the standard ones and before one have the shapes of their classes
pub record AreShapesFrom (nodes : List Shape) (to firsts : List ℕ) (count : ℕ) (new : List Shape) : Type 0 where
  pub done : (j : ℕ) → STANDARD ≤ j → j < count → IsShapeFrom nodes to (slice_index_or firsts j 0) (shape_at new j)
  pub rising : (j : ℕ) → STANDARD ≤ j → j < count → IsRising (shape_at new j)
  pub blank : (j : ℕ) → count ≤ j → STANDARD ≤ j → shape_at new j ≡ Blank

-- the nodes of modes without FLEX, by the first old nodes of their numbers
abbrev pub AreTwins : (to firsts fixed : List ℕ) → Type 0
AreTwins to firsts fixed = fixed ≡ map (λ first. number_in to (twin_of first)) firsts

-- the other node of a declarer has its mode without FLEX
abbrev pub HaveTwins : List Shape → Type 0
HaveTwins nodes = (m : ℕ) → m < length nodes → IsNode nodes (without_flex m) (twin_of m)

-- each node has a shape
abbrev pub AreFull : List Shape → Type 0
AreFull nodes = (m : ℕ) → m < length nodes → shape_at nodes m ≡ Blank → ⊥
