-- How many cells a value of a mode takes.
use Rattle.std.specs.Prelude.{ℕ, zero, suc, ◌+◌, List, [], ◌∷◌, length}
use Rattle.a68_base.specs.declared.limits.TheConstants.{MOST_COUNTED}
use Rattle.a68_modes.specs.Nodes.{shape_at}
use Rattle.a68_modes.specs.declared.shape.Shape.{Shape}
use Rattle.a68_modes.specs.declared.shape.Shape.TheVariants.{Struct, Same}

-- the most cells that there may be (own)
abbrev pub most_cells : ℕ
most_cells = MOST_COUNTED

-- the cells of the fields, where this tells those of their modes
abbrev pub width_of_fields : (ℕ → ℕ) → List (ℕ × ℕ) → ℕ
width_of_fields f [] = 0
width_of_fields f (field ∷ fields) = f field.1 + width_of_fields f fields

-- a structure takes the cells of its fields, every other value one: a row has one for its descriptor, a union one for its
-- member (own)
abbrev pub width_by : (ℕ → ℕ) → Shape → ℕ
width_by f (Struct fields) = width_of_fields f fields
width_by f (Same m) = f m
width_by f _ = 1

abbrev pub width_within : (depth : ℕ) → List Shape → (mode : ℕ) → ℕ
width_within zero modes m = 1
width_within (suc n) modes m = width_by (width_within n modes) (shape_at modes m)

-- the cells of a value of a mode as a part of another: no structure lies deeper within others than there are nodes
abbrev pub width_of : List Shape → (mode : ℕ) → ℕ
width_of modes m = width_within (length modes) modes m
