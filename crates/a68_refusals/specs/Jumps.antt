-- Which jumps may be made (Report, 5.4.4; what a jump does not leave is own).
use Rattle.std.specs.Prelude.{◌+◌, ◌&&◌, ℕ, zero, suc, List, [], ◌∷◌, length, nat_eq, replicate, slice_index_or, slice_set, Option, Some, None, Bool, true, false, if◌then◌else◌}
use Rattle.a68_definitions.specs.Tags.{is_label_at}
use Rattle.a68_modes.specs.Nodes.{shape_at}
use Rattle.a68_modes.specs.declared.shape.Shape.{Shape}
use Rattle.a68_modes.specs.declared.shape.Shape.TheVariants.{Proc}
use Rattle.a68_positions.specs.declared.position.Position.{Position}
use Rattle.a68_positions.specs.declared.position.Position.TheVariants as position
use Rattle.a68_ranges.specs.Nodes.{kind_at, parts_at}
use Rattle.a68_refusals.specs.declared.rule.NodeRule.{NodeRule}
use Rattle.a68_refusals.specs.declared.rule.NodeRule.TheVariants.{J1, J2}
use Rattle.a68_tree.specs.Trees.{Built}
use Rattle.a68_tree.specs.declared.kind.NodeKind.{NodeKind}
use Rattle.a68_tree.specs.declared.kind.NodeKind.TheVariants as kind

-- a jump leaves no routine text, no unit of a parallel clause, and no definition of a mode, which has the bounds
abbrev pub is_wall : NodeKind → Bool
is_wall kind.RoutineText = true
is_wall kind.Parallel = true
is_wall kind.ModeDefinition = true
is_wall _ = false

-- ---- the innermost of these about each node: one more than its number, or 0 where there is none

-- that about the parts of a node, by that about the node
abbrev pub wall_within : (n wall : ℕ) → NodeKind → ℕ
wall_within n wall k = if is_wall k then n + 1 else wall

abbrev pub set_all : List ℕ → (wall : ℕ) → List ℕ → List ℕ
set_all [] wall table = table
set_all (p ∷ ps) wall table = set_all ps wall (slice_set table p wall)

-- the table with the parts of a node
abbrev pub with_walls : Built → (n : ℕ) → List ℕ → List ℕ
with_walls tree n table = set_all (parts_at tree n) (wall_within n (slice_index_or table n 0) (kind_at tree n)) table

-- by the nodes before one; a node stands before its parts
abbrev pub walls_by : Built → (count : ℕ) → List ℕ
walls_by tree zero = replicate (length tree.nodes) 0
walls_by tree (suc n) = with_walls tree n (walls_by tree n)

unfoldable pub walls : Built → List ℕ
walls tree = walls_by tree (length tree.nodes)

abbrev pub wall_at : Built → (n : ℕ) → ℕ
wall_at tree n = slice_index_or (walls tree) n 0

-- ---- the rules of jumps

-- the definition is that of a label, and the jump leaves nothing that it may not
abbrev pub may_reach : Built → (n : ℕ) → (definition : Option ℕ) → Bool
may_reach tree n None = false
may_reach tree n (Some d) = is_label_at tree d && nat_eq (wall_at tree n) (wall_at tree d)

-- a procedure without parameters is asked for
abbrev pub takes_none : Shape → Bool
takes_none (Proc [] m) = true
takes_none _ = false

abbrev pub is_routine_asked : List Shape → Position → Bool
is_routine_asked nodes (position.Goal m setter) = takes_none (shape_at nodes m)
is_routine_asked nodes _ = false

abbrev pub jump_rule : Built → List Shape → (n : ℕ) → (definition : Option ℕ) → Position → Option NodeRule
jump_rule tree nodes n definition own = if may_reach tree n definition then (if is_routine_asked nodes own then Some J2 else None) else Some J1
