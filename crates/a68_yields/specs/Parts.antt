-- Rows, structures and routines as slices, selections and calls see them (Report, 5.3.1, 5.3.2, 5.4.3).
use Rattle.std.specs.Prelude.{◌≡◌, ◌&&◌, ℕ, zero, suc, List, [], ◌∷◌, nat_eq, Option, Some, None, Bool, true, false, not, if◌then◌else◌}
use Rattle.a68_mode_table.specs.Growing.{IsInterned, IsRowInterned}
use Rattle.a68_modes.specs.Nodes.{shape_at}
use Rattle.a68_modes.specs.declared.shape.Shape.{Shape}
use Rattle.a68_modes.specs.declared.shape.Shape.TheVariants.{Ref, Rows, Struct, Proc}
use Rattle.a68_yields.specs.declared.parts.Part.{Part}
use Rattle.a68_yields.specs.declared.parts.Rowed.{Rowed}
use Rattle.a68_yields.specs.declared.parts.Structured.{Structured}

-- a row, or the name of one
abbrev pub row_of : (named : Bool) → Shape → Option Rowed
row_of named (Rows dims flex of) = Some (record { named = named; dims = dims; flex = flex; of = of })
row_of named shape = None

abbrev pub rowed_by : List Shape → Shape → Option Rowed
rowed_by nodes (Ref m) = row_of true (shape_at nodes m)
rowed_by nodes shape = row_of false shape

abbrev pub rowed : List Shape → (mode : ℕ) → Option Rowed
rowed nodes m = rowed_by nodes (shape_at nodes m)

-- a structure, of no dimensions, a row of structures, or the name of either
abbrev pub structure_of : (named : Bool) (dims : ℕ) (flex : Bool) (node : ℕ) → Shape → Option Structured
structure_of named dims flex node (Struct fields) = Some (record { named = named; dims = dims; flex = flex; node = node })
structure_of named dims flex node shape = None

abbrev pub structure_within : List Shape → (named : Bool) (node : ℕ) → Shape → Option Structured
structure_within nodes named node (Rows dims flex of) = structure_of named dims flex of (shape_at nodes of)
structure_within nodes named node shape = structure_of named 0 false node shape

abbrev pub structured_by : List Shape → (mode : ℕ) → Shape → Option Structured
structured_by nodes m (Ref a) = structure_within nodes true a (shape_at nodes a)
structured_by nodes m shape = structure_within nodes false m shape

abbrev pub structured : List Shape → (mode : ℕ) → Option Structured
structured nodes m = structured_by nodes m (shape_at nodes m)

abbrev pub fields_of : Shape → List (ℕ × ℕ)
fields_of (Struct fields) = fields
fields_of shape = []

-- the mode of the first field of that tag
abbrev pub field_mode : (tag : ℕ) → List (ℕ × ℕ) → Option ℕ
field_mode tag [] = None
field_mode tag (field ∷ fields) = if nat_eq field.0 tag then Some field.1 else field_mode tag fields

-- what a procedure takes and yields
abbrev pub parameters_of : Shape → List ℕ
parameters_of (Proc params m) = params
parameters_of shape = []

abbrev pub routine_result : Shape → Option ℕ
routine_result (Proc params m) = Some m
routine_result shape = None

-- A part of a row or a structure; of a name's part the name. So many dimensions are left of those of the row; FLEX is not left in a name's
-- part.
abbrev pub IsRowPart : List Shape → (dims : ℕ) (flex : Bool) (of : ℕ) → List Shape → ℕ → Type 0
IsRowPart nodes zero flex of after m = (after ≡ nodes) × (m ≡ of)
IsRowPart nodes (suc dims) flex of after m = IsRowInterned nodes (suc dims) flex of after m

abbrev pub IsNamedPart : Bool → List Shape → ℕ → List Shape → ℕ → Type 0
IsNamedPart false nodes of after m = (after ≡ nodes) × (m ≡ of)
IsNamedPart true nodes of after m = IsInterned nodes (Ref of) after m

-- the mode of a part, among modes that may grow by it
pub record IsModeOfPart (nodes : List Shape) (part : Part) (after : List Shape) (m : ℕ) : Type 0 where
  pub between : List Shape
  pub row : ℕ
  pub row_is : IsRowPart nodes part.dims (part.flex && not part.named) part.of between row
  pub is : IsNamedPart part.named between row after m
