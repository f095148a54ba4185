-- Goals over nodes that are there.
use Rattle.std.specs.Prelude.{◌<◌, ◌^◌, ◌+◌, ◌*◌, ℕ, zero, suc, List, Option, Some, None, length}
use Rattle.a68_equiv.specs.Unfolding.{unfolded}
use Rattle.a68_coerce.specs.declared.goal.CoercionGoal.{CoercionGoal}
use Rattle.a68_coerce.specs.declared.goal.CoercionGoal.TheVariants as goal
use Rattle.a68_coerce.specs.declared.leaf.Leaf.{Leaf}
use Rattle.a68_coerce.specs.declared.leaf.Leaf.TheVariants as leaf
use Rattle.a68_coerce.specs.declared.walk.Target.{Target}
use Rattle.a68_coerce.specs.declared.walk.Target.TheVariants as want
use Rattle.a68_modes.specs.declared.shape.Shape.{Shape}
use Rattle.a68_modes.specs.declared.shape.Shape.TheVariants.{Rows}

-- the modes of the goal are among the first n nodes, and a row has a dimension
abbrev pub IsGoalBelow : ℕ → CoercionGoal → Type 0
IsGoalBelow n (goal.Mode m) = m.id < n
IsGoalBelow n (goal.Row dims flex of) = (of.id < n) × (0 < dims)
IsGoalBelow n (goal.Name m) = m.id < n
IsGoalBelow n (goal.NameOfRow dims of) = (of.id < n) × (0 < dims)

-- a form leads to no node
abbrev pub IsTargetBelow : ℕ → Target → Type 0
IsTargetBelow n (want.CoercionGoal g) = IsGoalBelow n g
IsTargetBelow n (want.ModeForm f) = Unit {0}

-- the mode of the leaf is among the first n nodes
abbrev pub IsLeafBelow : ℕ → Leaf → Type 0
IsLeafBelow n (leaf.Mode m) = m < n
IsLeafBelow n leaf.StrongOnly = Unit {0}

-- the element of a row
abbrev pub element_of : Shape → Option ℕ
element_of (Rows dims flex e) = Some e
element_of shape = None

abbrev pub row_next : List Shape → ℕ → Option ℕ
row_next nodes m = element_of (unfolded nodes m)

abbrev pub counted : (ℕ → ℕ) → Option ℕ → ℕ
counted f None = 0
counted f (Some k) = suc (f k)

-- how many rows are within one another below a mode, as far as the fuel goes
abbrev pub rows_below : List Shape → ℕ → ℕ → ℕ
rows_below nodes zero m = 0
rows_below nodes (suc fuel) m = counted (rows_below nodes fuel) (row_next nodes m)

-- how deep a goal is, in rows and dimensions
abbrev pub depth_of_shape : List Shape → Shape → ℕ
depth_of_shape nodes (Rows dims flex e) = (rows_below nodes (length nodes) e + 1) * 2 ^ 32 + dims
depth_of_shape nodes shape = 0

abbrev pub depth : List Shape → CoercionGoal → ℕ
depth nodes (goal.Mode n) = depth_of_shape nodes (unfolded nodes n.id)
depth nodes (goal.Row dims flex of) = (rows_below nodes (length nodes) of.id + 1) * 2 ^ 32 + dims
depth nodes g = 0
