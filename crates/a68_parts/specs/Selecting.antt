-- Inner: the headline does not rest on this file.
-- The fields that selections take (Report, 5.3.1).
use Rattle.std.specs.Prelude.{◌≡◌, ℕ, List, map}
use Rattle.a68_annot.specs.declared.annotated.Annotated.{Annotated}
use Rattle.a68_elab.specs.Made.{field_in, fields_at, first_goal}
use Rattle.a68_modes.specs.Nodes.{shape_at}
use Rattle.a68_modes.specs.declared.shape.Shape.{Shape}
use Rattle.a68_modes.specs.declared.shape.Shape.TheVariants as shape
use Rattle.a68_tree.specs.declared.kind.NodeKind.{NodeKind}
use Rattle.a68_tree.specs.declared.kind.NodeKind.TheVariants as kind
use Rattle.a68_tree.specs.declared.node.Node.{Node}

-- the element of a row; any other mode itself
abbrev pub structure_in : (mode : ℕ) → Shape → ℕ
structure_in m (shape.Rows dims flex of) = of
structure_in m _ = m

-- the mode whose fields those of a mode are
abbrev pub structure_by : List Shape → (mode : ℕ) → Shape → ℕ
structure_by modes m (shape.Ref to) = structure_in to (shape_at modes to)
structure_by modes m s = structure_in m s

abbrev pub structure_at : List Shape → (mode : ℕ) → ℕ
structure_at modes m = structure_by modes m (shape_at modes m)

-- the place of the field that a selection takes; 0 of any other node
abbrev pub selected_by : Annotated → (name : ℕ) → List ℕ → NodeKind → ℕ
selected_by a name ids kind.Selection = field_in name (fields_at a.modes (first_goal a ids))
selected_by a name ids _ = 0

abbrev pub selected : Annotated → Node → ℕ
selected a n = selected_by a n.name n.parts n.kind

-- those of all nodes
abbrev pub AreSelected : Annotated → List ℕ → Type 0
AreSelected a places = places ≡ map (selected a) a.tree.nodes
