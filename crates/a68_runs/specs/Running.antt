-- Inner: the headline does not rest on this file.
-- Steps on the way to which nodes run.
use Rattle.std.specs.Prelude.{◌≡◌, ◌<◌, ℕ, Bool, true, false, List, length, None, Some, slice_get, not, ◌||◌, if◌then◌else◌}
use Rattle.std.specs.Option.{option_and_then}
use Rattle.std.specs.declared.option.Option.{Option}
use Rattle.a68_modes.specs.declared.standard.TheConstants as standard
use Rattle.a68_annot.specs.declared.annotated.Annotated.{Annotated}
use Rattle.a68_annot.specs.declared.note.Note.{Note}
use Rattle.a68_elab.specs.Made.{behind_proc, behind_ref, is_exit, is_label, kind_at, rowed_to}
use Rattle.a68_elab.specs.Runs.{is_outcome, is_there, outcome}
use Rattle.a68_runs.specs.declared.paths.Between.{Between}
use Rattle.a68_modes.specs.Nodes.{shape_at, is_void}
use Rattle.a68_modes.specs.declared.coercion.Coercion.{Coercion}
use Rattle.a68_modes.specs.declared.coercion.Coercion.TheVariants as coercion
use Rattle.a68_modes.specs.declared.shape.Shape.{Shape}
use Rattle.a68_tree.specs.Trees.{AllBetween}
use Rattle.a68_tree.specs.declared.node.Node.{Node}

-- a node is there and has a note, and its parts stand behind it
pub record IsThere (a : Annotated) (id : ℕ) : Type 0 where
  pub node : Node
  pub note : Note
  pub is : slice_get a.tree.nodes id ≡ Some node
  pub noted : slice_get a.notes id ≡ Some note
  pub behind : AllBetween id (length a.tree.nodes) node.parts

-- the first nodes are there, so many of them
abbrev pub AreThere : Annotated → (count : ℕ) → Type 0
AreThere a count = (id : ℕ) → id < count → IsThere a id

-- a value of a mode that is there
abbrev pub value_of : List Shape → (mode : ℕ) → Option Between
value_of modes m = if is_there modes m then Some (record { mode = m; left = true }) else None

-- what stands behind a coercion of a value of a mode, where this path leads to a mode
abbrev pub behind : List Shape → (goal mode : ℕ) → Coercion → List Coercion → Option Between
behind modes goal mode coercion.Deref path = value_of modes (behind_ref (shape_at modes mode))
behind modes goal mode coercion.Deproc path =
    let m = behind_proc (shape_at modes mode) in
    Some (record { mode = m; left = not (is_void (shape_at modes m)) })
behind modes goal mode (coercion.Unite from) path = Some (record { mode = from; left = true })
behind modes goal mode coercion.Widen path = Some (record { mode = standard.ROW_OF_BOOL; left = true })
behind modes goal mode coercion.RowUp path = option_and_then (value_of modes) (rowed_to modes goal path)
behind modes goal mode coercion.RowUpName path = option_and_then (value_of modes) (rowed_to modes goal path)
behind modes goal mode coercion.Drop path = Some (record { mode = standard.VOID; left = false })

abbrev pub one_more : List Shape → (goal : ℕ) → Between → Coercion → List Coercion → Option Between
one_more modes goal at c path = if at.left then behind modes goal at.mode c path else None

-- a node of a serial clause is a label or leaves what is wanted of it, where that one follows
abbrev pub passes : Annotated → (wanted : Bool) (id next : ℕ) → Bool
passes a wanted id next = is_label (kind_at a id) || is_outcome (if is_exit (kind_at a next) then wanted else false) (outcome a id)

-- how many nodes a step or a label takes: with EXIT behind it two
abbrev pub width : Annotated → (id next : ℕ) → ℕ
width a id next = if is_label (kind_at a id) then 1 else (if is_exit (kind_at a next) then 2 else 1)
