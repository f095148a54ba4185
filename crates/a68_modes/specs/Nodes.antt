-- The nodes of the modes.
use Rattle.std.specs.Prelude.{◌≡◌, ◌<◌, ◌≤◌, ℕ, Bool as Truth, List, [], ◌∷◌, ◌++◌, length, take, map, true, false, slice_index_or}
use Rattle.std.specs.List.{All}
use Rattle.a68_base.specs.declared.limits.TheConstants.{MOST_MODES}
use Rattle.a68_modes.specs.declared.standard.TheConstants as standard
use Rattle.a68_modes.specs.declared.shape.Shape.{Shape}
use Rattle.a68_modes.specs.declared.shape.Shape.TheVariants.{Void, Int, Long, Bool, Char, Bits, Sema, Layout, Ref, Rows, Struct, Union, Proc, Same, Blank}

-- the shape of a node; a number of no node has none
abbrev pub shape_at : List Shape → ℕ → Shape
shape_at nodes m = slice_index_or nodes m Blank

-- a value of the mode fits one cell, and is not made of others
abbrev pub is_plain : Shape → Truth
is_plain Int = true
is_plain Long = true
is_plain Bool = true
is_plain Char = true
is_plain Bits = true
is_plain Sema = true
is_plain (Ref m) = true
is_plain (Proc params m) = true
is_plain _ = false

abbrev pub is_void : Shape → Truth
is_void Void = true
is_void _ = false

-- the modes within a shape, in declared order
abbrev pub parts_of : Shape → List ℕ
parts_of (Ref m) = m ∷ []
parts_of (Rows dims flex m) = m ∷ []
parts_of (Struct fields) = map (λ field. field.1) fields
parts_of (Union members) = members
parts_of (Proc params m) = params ++ m ∷ []
parts_of (Same m) = m ∷ []
parts_of _ = []

-- each mode within the shape is one of the first n nodes
abbrev pub ShapeIsWithin : ℕ → Shape → Type 0
ShapeIsWithin n shape = All (λ m. m < n) (parts_of shape)

-- the standard modes by their numbers: VOID, INT, BOOL, CHAR, BITS, SEMA, layout, [] CHAR, what can be printed, REF INT,
-- REF STRING, [] BOOL, STRING, LONG INT, REF LONG INT
abbrev pub standard_shapes : List Shape
standard_shapes =
    Void ∷ Int ∷ Bool ∷ Char ∷ Bits ∷ Sema ∷ Layout ∷ Rows 1 false standard.CHAR
    ∷ Union (standard.INT ∷ standard.LONG_INT ∷ standard.BOOL ∷ standard.CHAR ∷ standard.BITS ∷ standard.ROW_OF_CHAR ∷ standard.LAYOUT ∷ [])
    ∷ Ref standard.INT ∷ Ref standard.STRING ∷ Rows 1 false standard.BOOL ∷ Rows 1 true standard.CHAR
    ∷ Long ∷ Ref standard.LONG_INT ∷ []

-- what every list of modes keeps
pub record HoldsNodes (nodes : List Shape) : Type 0 where
  -- it begins with the standard modes
  pub standard : take standard.STANDARD nodes ≡ standard_shapes
  -- a mode within a shape is one of its nodes
  pub within : (m : ℕ) → m < length nodes → ShapeIsWithin (length nodes) (shape_at nodes m)
  -- it has room for no more than 16,777,216
  pub few : length nodes ≤ MOST_MODES
