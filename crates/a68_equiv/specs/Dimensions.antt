-- Rows have dimensions (Report, 4.6.1 h).
use Rattle.std.specs.Prelude.{◌<◌, ◌^◌, ℕ, List}
use Rattle.a68_modes.specs.declared.shape.Shape.{Shape}
use Rattle.a68_modes.specs.declared.shape.Shape.TheVariants.{Rows}
use Rattle.a68_modes.specs.Nodes.{shape_at}

-- a row has at least one dimension, and no more than a number of 32 bits tells
abbrev pub HasDimensions : Shape → Type 0
HasDimensions (Rows dims flex element) = (0 < dims) × (dims < 2 ^ 32)
HasDimensions shape = Unit {0}

-- each row has
abbrev pub HaveDimensions : List Shape → Type 0
HaveDimensions nodes = (m : ℕ) → HasDimensions (shape_at nodes m)
