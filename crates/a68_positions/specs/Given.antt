-- What a node asks of each of its parts, by what is asked of itself (Report, 6.1.1, and the clauses of chapters 3 to 5).
use Rattle.std.specs.Prelude.{◌-◌, ◌+◌, ◌||◌, ℕ, List, [], ◌∷◌, drop, length, nat_eq, nat_lt, slice_index_or, Option, Some, None, Bool, true, false, if◌then◌else◌}
use Rattle.a68_modes.specs.declared.standard.TheConstants as standard
use Rattle.a68_ranges.specs.declared.tags.TheConstants as tags
use Rattle.a68_declare.specs.Outcome.{ByNode}
use Rattle.a68_definitions.specs.Defined.{first_declarer, fixed_mode_at, is_declarer, part_from_end, part_number}
use Rattle.a68_definitions.specs.Tags.{called_by, is_label}
use Rattle.a68_identify.specs.declared.identified.Identified.{Identified}
use Rattle.a68_identify.specs.declared.identified.Identified.TheVariants.{Declared, Standard}
use Rattle.a68_modes.specs.Nodes.{shape_at}
use Rattle.a68_modes.specs.declared.coercion.Sort.{Sort}
use Rattle.a68_modes.specs.declared.coercion.Sort.TheVariants as by
use Rattle.a68_modes.specs.declared.shape.Shape.{Shape}
use Rattle.a68_modes.specs.declared.shape.Shape.TheVariants.{Void, Rows, Struct}
use Rattle.a68_signs.specs.declared.signs.Operator.{Operator}
use Rattle.a68_positions.specs.declared.asker.Asker.{Asker}
use Rattle.a68_positions.specs.declared.position.Position.{Position}
use Rattle.a68_positions.specs.declared.position.Position.TheVariants as position
use Rattle.a68_ranges.specs.Nodes.{kind_at, parts_at}
use Rattle.a68_tree.specs.Trees.{Built}
use Rattle.a68_tree.specs.declared.kind.NodeKind.{NodeKind}
use Rattle.a68_tree.specs.declared.kind.NodeKind.TheVariants as kind
use Rattle.a68_yields.specs.Leaves.{has_exit, is_exit, is_serial, is_spec}
use Rattle.a68_yields.specs.Parts.{parameters_of}
use Rattle.a68_yields.specs.Sought.{is_subscript}
use Rattle.a68_yields.specs.Yields.{Known}
use Rattle.a68_yields.specs.declared.yielding.Finding.{Finding}
use Rattle.a68_yields.specs.declared.yielding.Finding.TheVariants as finding

abbrev pub position_at : List Position → ℕ → Position
position_at ps n = slice_index_or ps n position.Nowhere

abbrev pub finding_at : List Finding → ℕ → Finding
finding_at fs n = slice_index_or fs n finding.Nothing

-- a strong goal that this node sets
abbrev pub goal : (n mode : ℕ) → Position
goal n m = position.Goal m (Some n)

abbrev pub mode_found : Finding → Option ℕ
mode_found (finding.Mode found) = found
mode_found _ = None

-- a mode or a form is asked by that sort
abbrev pub asked : Sort → Finding → Position
asked sort found = position.Asks sort (mode_found found)

-- the position of the first part, and of all others
abbrev pub at_first : (place : ℕ) → (here there : Position) → Position
at_first place here there = if nat_eq place 0 then here else there

-- that of the last of so many parts, and of all others
abbrev pub at_last : (count place : ℕ) → (here there : Position) → Position
at_last count place here there = if nat_eq (place + 1) count then here else there

-- ---- choices (3.4.1): a goal is that of each part that may be chosen; of what is asked the choice finds the mode

abbrev pub of_choice : (n : ℕ) → (own : Position) → Position
of_choice n (position.Goal m setter) = position.Goal m setter
of_choice n (position.Asks by_sort (Some m)) = goal n m
of_choice n (position.Asks by_sort None) = position.Unlooked
of_choice n position.Unlooked = position.Unlooked
of_choice n _ = position.Nowhere

abbrev pub chosen_part : (n : ℕ) → (own : Position) → NodeKind → Position
chosen_part n own k = if is_spec k then position.Nowhere else of_choice n own

-- ---- serial clauses (3.2.1): what is asked of one is asked of its last unit, and with EXIT of all that it chooses among; the other phrases
-- yield nothing, and of a label and EXIT nothing is asked

abbrev pub is_marker : NodeKind → Bool
is_marker k = is_label k || is_exit k

abbrev pub last_unit : Built → (n : ℕ) → (own : Position) → Position
last_unit tree n own = if has_exit tree (parts_at tree n) then of_choice n own else own

-- a phrase with these parts behind it
abbrev pub phrase : Built → (n : ℕ) → (own : Position) → (behind : List ℕ) → Position
phrase tree n own [] = last_unit tree n own
phrase tree n own (p ∷ ps) = if is_exit (kind_at tree p) then of_choice n own else goal n 0

abbrev pub serial_part : Built → (n place p : ℕ) → (own : Position) → Position
serial_part tree n place p own = if is_marker (kind_at tree p) then position.Nowhere else phrase tree n own (drop (place + 1) (parts_at tree n))

-- ---- loops

-- what a loop does yields nothing (3.5.1)
abbrev pub looped : (n : ℕ) → NodeKind → Position
looped n k = if is_serial k then goal n 0 else position.Nowhere

-- ---- sources of variables (4.4.1), whose goal is the mode without FLEX; without a declarer that of the routine text

abbrev pub variable_mode : ByNode → (defined : List ℕ) → (p : ℕ) → Option ℕ → ℕ
variable_mode of defined p (Some d) = fixed_mode_at of d
variable_mode of defined p None = part_number defined p

abbrev pub variable_part : Built → ByNode → (defined : List ℕ) → (n p : ℕ) → Position
variable_part tree of defined n p =
    if is_declarer (kind_at tree p) then position.Nowhere else goal n (variable_mode of defined p (first_declarer tree (parts_at tree n)))

-- ---- assignations and identity relations (5.2.1, 5.2.2)

abbrev pub source : (n aside : ℕ) → Finding → Position
source n aside (finding.Mode (Some name)) = goal n aside
source n aside _ = position.Unlooked

abbrev pub side : (n : ℕ) → Finding → Position
side n (finding.Mode (Some name)) = goal n name
side n _ = position.Unlooked

-- ---- calls (5.4.3)

abbrev pub parameter_of : (n count place : ℕ) → (parameters : List ℕ) → Position
parameter_of n count place parameters = if nat_eq (length parameters + 1) count then goal n (slice_index_or parameters (place - 1) 0) else position.Unlooked

abbrev pub parameter : List Shape → (n count place : ℕ) → Finding → Position
parameter nodes n count place (finding.Mode (Some m)) = parameter_of n count place (parameters_of (shape_at nodes m))
parameter nodes n count place _ = position.Unlooked

abbrev pub is_collateral : NodeKind → Bool
is_collateral kind.Collateral = true
is_collateral _ = false

-- print and write take one unit, which is the item unless it is a collateral clause: then its units are (10.3.3.1; own form)
abbrev pub item : (n count : ℕ) → NodeKind → Position
item n count k = if nat_eq count 2 then (if is_collateral k then position.Items n else goal n standard.PRINTABLE) else position.Unlooked

-- whole takes an INT or a LONG INT, and an INT (10.3.2.1)
abbrev pub whole : (n count place aside : ℕ) → Position
whole n count place aside = if nat_eq count 3 then goal n (if nat_eq place 1 then aside else standard.INT) else position.Unlooked

abbrev pub primary : (called : Option ℕ) → Finding → Position
primary (Some c) found = position.Called
primary None found = asked by.Meek found

abbrev pub argument : List Shape → (n count place aside : ℕ) → (called : Option ℕ) → Finding → NodeKind → Position
argument nodes n count place aside (Some c) found k = if nat_eq c tags.WHOLE then whole n count place aside else item n count k
argument nodes n count place aside None found k = parameter nodes n count place found

-- ---- formulas (5.4.2): the mode of an operand is that of the parameter, or where that stands for every row the one that is found aside

abbrev pub standard_parameter : (count place : ℕ) → Operator → ℕ
standard_parameter count place o = if nat_eq (place + 1) count then o.right else o.left

abbrev pub parameter_by : List Shape → (defined : List ℕ) → (count place : ℕ) → Identified → ℕ
parameter_by nodes defined count place (Declared d) = slice_index_or (parameters_of (shape_at nodes (part_number defined d))) place 0
parameter_by nodes defined count place (Standard o) = standard_parameter count place o

abbrev pub every_row : (aside mode : ℕ) → ℕ
every_row aside m = if nat_eq m 0 then aside else m

abbrev pub operand : List Shape → (defined : List ℕ) → (n count place aside : ℕ) → Finding → Position
operand nodes defined n count place aside (finding.Operator (Some o)) = goal n (every_row aside (parameter_by nodes defined count place o))
operand nodes defined n count place aside _ = position.Unlooked

-- ---- displays (3.3.1): each unit yields nothing, the element or the row of one dimension fewer, or the field

abbrev pub field_of : (n count place : ℕ) → List (ℕ × ℕ) → Position
field_of n count place fields = if nat_eq (length fields) count then goal n (slice_index_or fields place (0, 0)).1 else position.Unlooked

abbrev pub unit_of : (n count place aside : ℕ) → Shape → Position
unit_of n count place aside Void = goal n 0
unit_of n count place aside (Rows dims flex of) = goal n (if nat_lt 1 dims then aside else of)
unit_of n count place aside (Struct fields) = field_of n count place fields
unit_of n count place aside _ = position.Unlooked

abbrev pub display_unit : List Shape → (n count place aside : ℕ) → (own : Position) → Position
display_unit nodes n count place aside (position.Goal m setter) = unit_of n count place aside (shape_at nodes m)
display_unit nodes n count place aside (position.Items call) = goal call standard.PRINTABLE
display_unit nodes n count place aside position.Nowhere = position.Nowhere
display_unit nodes n count place aside position.Called = position.Nowhere
display_unit nodes n count place aside _ = position.Unlooked

-- ---- subscripts (5.3.2.1), and bodies of routine texts (5.4.1)

abbrev pub indexed : Built → (n place : ℕ) → Finding → Position
indexed tree n place found = if is_subscript tree (parts_at tree n) then at_first place (asked by.Meek found) position.Nowhere else position.Nowhere

abbrev pub body : Built → ByNode → (n count place : ℕ) → Position
body tree of n count place = at_last count place (goal n (fixed_mode_at of (part_from_end (parts_at tree n) 2))) position.Nowhere

-- the position of a node's part, which stands at that place among its parts: a row for each kind of the node
abbrev pub given : Known → List Shape → Asker → (place p : ℕ) → NodeKind → Position
given k nodes a place p kind.Closed = a.own
given k nodes a place p kind.Out = a.own
given k nodes a place p kind.Serial = serial_part k.tree a.node place p a.own
given k nodes a place p kind.Conditional = at_first place (asked by.Meek a.found) (chosen_part a.node a.own (kind_at k.tree p))
given k nodes a place p kind.Case = at_first place (asked by.Meek a.found) (chosen_part a.node a.own (kind_at k.tree p))
given k nodes a place p kind.Conformity = at_first place (asked by.Meek a.found) (chosen_part a.node a.own (kind_at k.tree p))
given k nodes a place p kind.Parallel = goal a.node 0
given k nodes a place p kind.From = at_first place (asked by.Meek a.found) position.Nowhere
given k nodes a place p kind.By = at_first place (asked by.Meek a.found) position.Nowhere
given k nodes a place p kind.To = at_first place (asked by.Meek a.found) position.Nowhere
given k nodes a place p kind.While = at_first place (asked by.Meek a.found) position.Nowhere
given k nodes a place p kind.Lower = at_first place (asked by.Meek a.found) position.Nowhere
given k nodes a place p kind.Upper = at_first place (asked by.Meek a.found) position.Nowhere
given k nodes a place p kind.At = at_first place (asked by.Meek a.found) position.Nowhere
given k nodes a place p kind.Index = indexed k.tree a.node place a.found
given k nodes a place p kind.Loop = looped a.node (kind_at k.tree p)
given k nodes a place p kind.Cast = at_first place position.Nowhere (goal a.node (part_number k.defined a.node))
given k nodes a place p kind.RoutineText = body k.tree k.of a.node (length (parts_at k.tree a.node)) place
given k nodes a place p kind.IdentityDefinition = at_last (length (parts_at k.tree a.node)) place (goal a.node (part_number k.defined a.node)) position.Nowhere
given k nodes a place p kind.OpDefinition = at_last (length (parts_at k.tree a.node)) place (goal a.node (part_number k.defined a.node)) position.Nowhere
given k nodes a place p kind.Variable = at_last (length (parts_at k.tree a.node)) place (variable_part k.tree k.of k.defined a.node p) position.Nowhere
given k nodes a place p kind.Assignation = at_first place (asked by.Soft a.found) (source a.node a.aside a.found)
given k nodes a place p kind.Identity = side a.node a.found
given k nodes a place p kind.Selection = at_first place (asked by.Weak a.found) position.Nowhere
given k nodes a place p kind.Slice = at_first place (asked by.Weak a.found) position.Nowhere
given k nodes a place p kind.Call =
    at_first place (primary (called_by k.tree k.tags a.node) a.found)
    (argument nodes a.node (length (parts_at k.tree a.node)) place a.aside (called_by k.tree k.tags a.node) a.found (kind_at k.tree p))
given k nodes a place p kind.Monadic = operand nodes k.defined a.node (length (parts_at k.tree a.node)) place a.aside a.found
given k nodes a place p kind.Dyadic = operand nodes k.defined a.node (length (parts_at k.tree a.node)) place a.aside a.found
given k nodes a place p kind.Collateral = display_unit nodes a.node (length (parts_at k.tree a.node)) place a.aside a.own
given k nodes a place p _ = position.Nowhere
