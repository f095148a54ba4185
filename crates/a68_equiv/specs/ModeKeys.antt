-- Inner: the headline does not rest on this file.
-- The keys of modes: equal exactly where the modes are equivalent.
use Rattle.std.specs.Prelude.{◌≡◌, ℕ, List, [], ◌∷◌, ◌++◌, Bool}
use Rattle.a68_modes.specs.declared.shape.Shape.{Shape}
use Rattle.a68_modes.specs.declared.shape.Shape.TheVariants.{Same}
use Rattle.a68_equiv.specs.declared.mode.Mode.{Mode}
use Rattle.a68_equiv.specs.declared.steps.Inward.TheVariants.{WithinUnions}
use Rattle.a68_equiv.specs.Ways.{steps_of}
use Rattle.a68_equiv.specs.Unfolding.{unfolded, is_union}
use Rattle.a68_equiv.specs.Graph.{mode_of, code_of, IsRowOf, IsShapeRow}
use Rattle.a68_partition.specs.Rounds.{IsRowKey}

-- a code, written so that it shows where it ends: 1 before each of its numbers
abbrev pub marked : List ℕ → List ℕ
marked [] = []
marked (c ∷ cs) = 1 ∷ c ∷ marked cs

-- the constructor, then 0 and the classes of what stands in the row
pub record IsKeyOf (classes : List ℕ) (fixed : Bool) (shape : Shape) (row : Bool × List ℕ) (key : List ℕ) : Type 0 where
  pub tail : List ℕ
  pub is_tail : IsRowKey classes 0 row.0 row.1 tail
  pub whole : key ≡ marked (code_of fixed shape) ++ tail

-- the key of a mode by these classes
pub record IsModeKey (nodes : List Shape) (classes : List ℕ) (a : Mode) (key : List ℕ) : Type 0 where
  pub row : Bool × List ℕ
  pub is_row : IsRowOf nodes a row
  pub kind : row.0 ≡ is_union (unfolded nodes a.id)
  pub is_key : IsKeyOf classes a.fixed (unfolded nodes a.id) row key

-- the same of the mode of a number
abbrev pub HasModeKey : List Shape → List ℕ → ℕ → List ℕ → Type 0
HasModeKey nodes classes i key = IsModeKey nodes classes (mode_of i) key

-- a shape over nodes that are there, behind its mode words
abbrev pub bare : List Shape → Shape → Shape
bare nodes (Same m) = unfolded nodes m
bare nodes shape = shape

-- the key of a new node of this shape
pub record IsNewKey (nodes : List Shape) (classes : List ℕ) (shape : Shape) (fixed : Bool) (key : List ℕ) : Type 0 where
  pub row : Bool × List ℕ
  pub is_row : IsShapeRow nodes (steps_of WithinUnions shape) (bare nodes shape) fixed row
  pub is_key : IsKeyOf classes fixed (bare nodes shape) row key
