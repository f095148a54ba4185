-- The modes of a text as they grow (own): what each list of them keeps, and what a shape adds to it.
use Rattle.std.specs.Prelude.{◌≡◌, ◌<◌, ◌≤◌, ◌++◌, ◌∷◌, [], ℕ, List, Bool, false, length}
use Rattle.a68_declare.specs.Clean.{AreClean, CleanMembersHaveNoFlex}
pub use Rattle.a68_declare.specs.Clean.{AreFixed, IsNode}
use Rattle.a68_equiv.specs.Dimensions.{HaveDimensions}
use Rattle.a68_equiv.specs.Related.{as_it_stands, without_flex}
use Rattle.a68_equiv.specs.Unfolding.{Equivalent}
use Rattle.a68_equiv.specs.Ways.{AreWellFormed}
use Rattle.a68_modes.specs.Nodes.{shape_at, HoldsNodes}
use Rattle.a68_modes.specs.declared.shape.Shape.{Shape}
use Rattle.a68_modes.specs.declared.shape.Shape.TheVariants.{Rows, Union}
use Rattle.a68_modes.specs.declared.standard.TheConstants as standard

-- what a list of modes keeps
pub record AreSound (nodes : List Shape) : Type 0 where
  pub holds : HoldsNodes nodes
  pub clean : AreClean nodes
  pub formed : AreWellFormed nodes
  pub rows : HaveDimensions nodes
  pub members : CleanMembersHaveNoFlex nodes
  -- each mode has a node without its FLEX
  pub fixed : (m : ℕ) → m < length nodes → (id : ℕ) × IsNode nodes (without_flex m) id

-- the node of a shape: the one that has it, or a new one behind the others where none has it
pub data IsInterned (old : List Shape) (shape : Shape) (new : List Shape) (id : ℕ) : Type 0 where
  an_old_one : id < length old → shape_at old id ≡ shape → new ≡ old → IsInterned old shape new id
  a_new_one : ((a : ℕ) → a < length old → shape_at old a ≡ shape → ⊥) → new ≡ old ++ shape ∷ [] → id ≡ length old → IsInterned old shape new id

-- the node of a row: that of the row without FLEX, of an element without FLEX, joins the modes before it
pub record IsRowInterned (old : List Shape) (dims : ℕ) (flex : Bool) (of : ℕ) (new : List Shape) (id : ℕ) : Type 0 where
  pub fixed_element : ℕ
  pub element_is : IsNode old (without_flex of) fixed_element
  pub between : List Shape
  pub fixed : ℕ
  pub fixed_is : IsInterned old (Rows dims false fixed_element) between fixed
  pub is : IsInterned between (Rows dims flex of) new id

-- the union of INT and LONG INT
abbrev pub number_mode : Shape
number_mode = Union (standard.INT ∷ standard.LONG_INT ∷ [])

-- the mode of an old node is that union: it is equivalent to a new node of it
abbrev pub IsNumberMode : List Shape → ℕ → Type 0
IsNumberMode nodes m = Equivalent (nodes ++ number_mode ∷ []) (as_it_stands m) (as_it_stands (length nodes))

-- the node of that union: the one that there is, or a new one behind the others where there is none
pub data IsNumberInterned (old new : List Shape) (id : ℕ) : Type 0 where
  an_old_number : id < length old → IsNumberMode old id → new ≡ old → IsNumberInterned old new id
  a_new_number : ((a : ℕ) → a < length old → IsNumberMode old a → ⊥) → new ≡ old ++ number_mode ∷ [] → id ≡ length old → IsNumberInterned old new id

-- the old shapes stand where they stood, and the node is there
pub record KeepsOld (old new : List Shape) (id : ℕ) : Type 0 where
  pub longer : length old ≤ length new
  pub kept : (m : ℕ) → m < length old → shape_at new m ≡ shape_at old m
  pub there : id < length new

-- the old shapes stand where they stood, and the shape at its node
pub record KeepsShapes (old new : List Shape) (id : ℕ) (shape : Shape) : Type 0 where
  pub longer : length old ≤ length new
  pub kept : (m : ℕ) → m < length old → shape_at new m ≡ shape_at old m
  pub there : id < length new
  pub is : shape_at new id ≡ shape
