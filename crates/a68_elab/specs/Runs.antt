-- What a node leaves: a value or none, by its kind, its note and what its parts leave; and whether that is what is asked of it
-- (own).
use Rattle.std.specs.Prelude.{ℕ, Bool, true, false, not, ◌&&◌, ◌||◌, ◌==◌, nat_lt, List, [], ◌∷◌, length, None, Some, slice_get, nat_eq, ◌+◌, nat_le, if◌then◌else◌}
use Rattle.std.specs.List.{list_all}
use Rattle.std.specs.Option.{is_some, option_map_or, option_and_then}
use Rattle.std.specs.declared.option.Option.{Option}
use Rattle.a68_modes.specs.declared.standard.TheConstants as standard
use Rattle.a68_signs.specs.declared.operators.TheConstants as operators
use Rattle.a68_acts.specs.Operations.{is_union}
use Rattle.a68_annot.specs.declared.annotated.Annotated.{Annotated}
use Rattle.a68_annot.specs.declared.note.Note.{Note}
use Rattle.a68_base.specs.declared.limits.TheConstants.{MOST_INSTRUCTIONS}
use Rattle.a68_elab.specs.Constants.{long_value_in, value_in}
use Rattle.a68_elab.specs.Made.{is_label, is_exit, kind_at, before_out, behind_heap, field_in, fields_at, first_bounds, first_goal, goal_at, form_of, behind_proc, behind_ref, begins_with, called, if_first, is_by, is_declarer, is_for, is_from, is_heap, is_one_of, is_to, is_while, items_at, only_id, out_of, parts_at, past, printers, rowed_to, spelling_of, standard_of, wholes}
use Rattle.a68_elab.specs.declared.bound.Bound.{Bound}
use Rattle.a68_elab.specs.declared.bound.Bound.TheVariants as bound
use Rattle.a68_layout.specs.Rooms.{bounds_needed}
use Rattle.a68_layout.specs.declared.types.TrimForm.{TrimForm}
use Rattle.a68_layout.specs.declared.types.TrimForm.TheVariants as form
use Rattle.a68_modes.specs.Nodes.{shape_at, is_void}
use Rattle.a68_modes.specs.declared.coercion.Coercion.{Coercion}
use Rattle.a68_modes.specs.declared.coercion.Coercion.TheVariants as coercion
use Rattle.a68_modes.specs.declared.shape.Shape.{Shape}
use Rattle.a68_modes.specs.declared.shape.Shape.TheVariants as shape
use Rattle.a68_tree.specs.declared.kind.NodeKind.{NodeKind}
use Rattle.a68_tree.specs.declared.kind.NodeKind.TheVariants as kind
use Rattle.a68_tree.specs.declared.node.Node.{Node}

-- ---- outcomes: what a node leaves as a construct, a value or none

-- whether a value is asked of a node
abbrev pub asks_value : Annotated → Note → Bool
asks_value a note = not (is_void (shape_at a.modes note.goal))

-- whether a construct yields a value before its coercions
abbrev pub yields_value : Annotated → Note → Bool
yields_value a note = not (is_void (shape_at a.modes note.mode))

-- a tag that is defined, or stands for a value of the standard environ; print, write and whole are neither
abbrev pub is_value : (definition : Option ℕ) → (spelling : Option (List ℕ)) → Bool
is_value definition spelling = is_some definition || is_some (standard_of definition spelling)

-- the units and phrases that are asked for a value or for none
abbrev pub is_construct : NodeKind → Bool
is_construct kind.Closed = true
is_construct kind.Vacuum = true
is_construct kind.Parallel = true
is_construct kind.Conditional = true
is_construct kind.Case = true
is_construct kind.Conformity = true
is_construct kind.Loop = true
is_construct kind.Serial = true
is_construct kind.Assignation = true
is_construct kind.Identity = true
is_construct kind.RoutineText = true
is_construct kind.Skip = true
is_construct kind.Nil = true
is_construct kind.Monadic = true
is_construct kind.Dyadic = true
is_construct kind.Selection = true
is_construct kind.Generator = true
is_construct kind.Slice = true
is_construct kind.Call = true
is_construct kind.Cast = true
is_construct kind.Denotation = true
is_construct kind.LongDenotation = true
is_construct kind.GoTo = true
is_construct kind.Out = true
is_construct kind.Joined = true
is_construct kind.ModeDefinition = true
is_construct kind.Priority = true
is_construct kind.OpDefinition = true
is_construct kind.IdentityDefinition = true
is_construct kind.Variable = true
is_construct _ = false

-- an outcome, where a test holds
abbrev pub if_so : (test outcome : Bool) → Option Bool
if_so test outcome = if test then Some outcome else None

-- a value for Some true, none for Some false; None where the node is no construct. A collateral clause that is asked for
-- a union holds the items of print, and is none.
abbrev pub outcome_by : Annotated → Node → Note → NodeKind → Option Bool
outcome_by a node note kind.From = Some true
outcome_by a node note kind.By = Some true
outcome_by a node note kind.To = Some true
outcome_by a node note kind.Lower = Some true
outcome_by a node note kind.Upper = Some true
outcome_by a node note kind.At = Some true
outcome_by a node note kind.Tag = if_so (is_value note.definition (spelling_of a node)) (asks_value a note)
outcome_by a node note kind.Collateral = if_so (not (is_union (shape_at a.modes note.goal))) (asks_value a note)
outcome_by a node note kind = if_so (is_construct kind) (asks_value a note)

abbrev pub outcome_at : Annotated → Option Node → Option Note → Option Bool
outcome_at a (Some node) (Some note) = outcome_by a node note node.kind
outcome_at a _ _ = None

-- the outcome of a node; None where there is no such node
unfoldable pub outcome : Annotated → (id : ℕ) → Option Bool
outcome a id = outcome_at a (slice_get a.tree.nodes id) (slice_get a.notes id)

-- whether an outcome is that which is wanted
abbrev pub is_outcome : (wanted : Bool) → Option Bool → Bool
is_outcome wanted None = false
is_outcome wanted (Some left) = if wanted then left else not left

-- ---- parts

-- all of these nodes leave what is wanted
abbrev pub all_leave : Annotated → (wanted : Bool) → List ℕ → Bool
all_leave a wanted ids = list_all (λ id. is_outcome wanted (outcome a id)) ids

-- there are so many, and each leaves a value
abbrev pub are_values : Annotated → (count : ℕ) → List ℕ → Bool
are_values a count ids = (length ids == count) && all_leave a true ids

-- the outcome of the last one
abbrev pub last_outcome : Annotated → List ℕ → Option Bool
last_outcome a [] = None
last_outcome a (id ∷ []) = outcome a id
last_outcome a (id ∷ (i ∷ ids)) = last_outcome a (i ∷ ids)

-- the outcome of the only one
abbrev pub only_outcome : Annotated → List ℕ → Option Bool
only_outcome a ids = option_and_then (outcome a) (only_id ids)

-- phrases: all but the last leave none, and the last what is wanted (Report, 3.2)
abbrev pub are_phrases : Annotated → (wanted : Bool) → List ℕ → Bool
are_phrases a wanted [] = false
are_phrases a wanted (id ∷ []) = is_outcome wanted (outcome a id)
are_phrases a wanted (id ∷ (i ∷ ids)) = is_outcome false (outcome a id) && are_phrases a wanted (i ∷ ids)

-- steps: each leaves none, but the last one and those before EXIT, which leave what is wanted; a label is no step (Report, 3.2)
abbrev pub are_steps : Annotated → (wanted : Bool) → List ℕ → Bool
are_steps a wanted [] = false
are_steps a wanted (id ∷ []) = is_outcome wanted (outcome a id)
are_steps a wanted (id ∷ (i ∷ ids)) =
    if is_label (kind_at a id) then are_steps a wanted (i ∷ ids)
    else (if is_exit (kind_at a i) then is_outcome wanted (outcome a id) && are_steps a wanted ids else is_outcome false (outcome a id) && are_steps a wanted (i ∷ ids))

-- ---- modes

-- a mode is one of those that are there
abbrev pub is_there : List Shape → (mode : ℕ) → Bool
is_there modes mode = nat_lt mode (length modes)

-- so is that of what a name of a mode refers to
abbrev pub refers : Annotated → (mode : ℕ) → Bool
refers a mode = is_there a.modes (behind_ref (shape_at a.modes mode))

abbrev pub is_row : Shape → Bool
is_row (shape.Rows dims flex m) = true
is_row _ = false

-- ---- what is asked of a node of a kind

-- an operator that runs: each of the table
abbrev pub applies : (row : ℕ) → Bool
applies row = nat_le operators.PLUSAB row && nat_le row operators.SHORTEN

-- an operator that leaves a value: each but UP and DOWN
abbrev pub gives : (row : ℕ) → Bool
gives row = not (nat_eq row operators.UP || nat_eq row operators.DOWN)

-- how many operands it has: two, and one from row 26 on
abbrev pub operands : (row : ℕ) → ℕ
operands row = if nat_le row operators.UPB_OF then 2 else 1

-- on as many values as it takes (Report, 5.4.2)
abbrev pub formula_runs : Annotated → (row : ℕ) → List ℕ → Bool
formula_runs a row ids = applies row && are_values a (operands row) ids

-- a formula whose operator the text defines leaves what the routine yields, whose operands leave values
abbrev pub declared_leaves : Annotated → (yields : Bool) → (definition : Option ℕ) → List ℕ → Option Bool
declared_leaves a yields None ids = None
declared_leaves a yields (Some d) ids = if_so (all_leave a true ids) yields

abbrev pub formula_leaves : Annotated → (yields : Bool) → (op definition : Option ℕ) → List ℕ → Option Bool
formula_leaves a yields None definition ids = declared_leaves a yields definition ids
formula_leaves a yields (Some row) definition ids = if_so (formula_runs a row ids) (gives row)

-- a bound that is written leaves a value
abbrev pub is_bounding : Annotated → Bound → Bool
is_bounding a (bound.Written id) = is_outcome true (outcome a id)
is_bounding a (bound.Meant n) = true
is_bounding a (bound.Defined frames id) = is_outcome true (outcome a id)

-- Bounds that leave values, as many as a name of a mode has (Report, 4.6). More than there may be instructions are not
-- counted: such a program is refused for its length (own).
abbrev pub bounds_run : Annotated → (mode : ℕ) → List Bound → Bool
bounds_run a mode bounds =
    list_all (is_bounding a) bounds && (nat_lt MOST_INSTRUCTIONS (length bounds) || nat_eq (length bounds) (bounds_needed a.modes mode))

-- a new name of what a name of this mode refers to, with the bounds of the first of these nodes
abbrev pub new_runs : Annotated → (mode : ℕ) → List ℕ → Bool
new_runs a mode ids = refers a mode && bounds_run a (behind_ref (shape_at a.modes mode)) (first_bounds a ids)

-- a declarer, and a source, if any, which leaves a value (Report, 4.4.1)
abbrev pub source_runs : Annotated → List ℕ → Bool
source_runs a (declarer ∷ []) = true
source_runs a (declarer ∷ (source ∷ [])) = is_outcome true (outcome a source)
source_runs a _ = false

-- a routine text without a declarer before it, which leaves a value
abbrev pub routine_runs : Annotated → List ℕ → Bool
routine_runs a (source ∷ []) = is_outcome true (outcome a source)
routine_runs a _ = false

abbrev pub declared_runs : Annotated → List ℕ → Bool
declared_runs a ids = if begins_with is_declarer a ids then source_runs a ids else routine_runs a ids

abbrev pub variable_runs : Annotated → (mode : ℕ) → List ℕ → Bool
variable_runs a mode ids =
    let parts = behind_heap (begins_with is_heap a ids) ids in
    new_runs a mode parts && declared_runs a parts

-- print and write of values, which leaves none; whole of two values, which leaves one (Report, 10.3); and a routine with
-- parameters that leave values, which leaves what it yields (Report, 5.4.3)
abbrev pub call_leaves : Annotated → (yields : Bool) → List ℕ → Option Bool
call_leaves a yields [] = None
call_leaves a yields (primary ∷ ids) =
    if is_one_of printers (called a primary) then if_so (all_leave a true (items_at a ids)) false
    else (if is_one_of wholes (called a primary) then if_so (are_values a 2 ids) true else if_so (all_leave a true (primary ∷ ids)) yields)

-- whether a routine of this mode yields a value
abbrev pub proc_yields : Annotated → (mode : ℕ) → Bool
proc_yields a mode = not (is_void (shape_at a.modes (behind_proc (shape_at a.modes mode))))

-- a field of that tag is there (Report, 5.3.1)
abbrev pub selects : Annotated → (name : ℕ) → List ℕ → Bool
selects a name ids = nat_lt (field_in name (fields_at a.modes (first_goal a ids))) (length (fields_at a.modes (first_goal a ids)))

-- a collateral clause of VOID, or a structure or a row of as many values as there are parts (Report, 3.3)
abbrev pub collateral_leaves : Annotated → Shape → List ℕ → Option Bool
collateral_leaves a shape.Void ids = if_so (all_leave a false ids) false
collateral_leaves a (shape.Struct fields) ids = if_so (nat_lt 0 (length ids) && all_leave a true ids) true
collateral_leaves a (shape.Rows dims flex m) ids = if_so (all_leave a true ids) true
collateral_leaves a s ids = None

-- ---- slices (Report, 5.3.2)

-- one where it is there
abbrev pub one_if : Bool → ℕ
one_if b = if b then 1 else 0

-- how many units an index that is written so has
abbrev pub written_units : TrimForm → ℕ
written_units form.Subscript = 1
written_units (form.Trimmer lower upper at) = one_if lower + (one_if upper + one_if at)

-- an index has a part for each unit of its form, and these leave values
abbrev pub is_index : Annotated → (id : ℕ) → Bool
is_index a id = (written_units (form_of a (parts_at a id)) == length (parts_at a id)) && all_leave a true (parts_at a id)

-- what is sliced leaves a value, and there is an index at least
abbrev pub slice_runs : Annotated → List ℕ → Bool
slice_runs a [] = false
slice_runs a (primary ∷ ids) = is_outcome true (outcome a primary) && (nat_lt 0 (length ids) && list_all (is_index a) ids)

-- ---- choices (Report, 3.4)

-- the phrases of an enquiry, whose range holds the parts that are chosen among too
abbrev pub asks : Annotated → (enquiry : ℕ) → Bool
asks a enquiry = are_phrases a true (parts_at a enquiry)

-- an enquiry, and one part or two that leave what is wanted; one that is left out is a skip
abbrev pub choice_runs : Annotated → (goal : ℕ) (wanted : Bool) → List ℕ → Bool
choice_runs a goal wanted (enquiry ∷ (part ∷ [])) = is_there a.modes goal && (asks a enquiry && is_outcome wanted (outcome a part))
choice_runs a goal wanted (enquiry ∷ (part ∷ (other ∷ []))) = asks a enquiry && (is_outcome wanted (outcome a part) && is_outcome wanted (outcome a other))
choice_runs a goal wanted _ = false

-- the part for no number; where it is left out a skip
abbrev pub out_runs : Annotated → (goal : ℕ) (wanted : Bool) → (out : Option ℕ) → Bool
out_runs a goal wanted None = is_there a.modes goal
out_runs a goal wanted (Some out) = is_outcome wanted (outcome a out)

-- an enquiry, and parts that leave what is wanted
abbrev pub case_runs : Annotated → (goal : ℕ) (wanted : Bool) → List ℕ → Bool
case_runs a goal wanted [] = false
case_runs a goal wanted (enquiry ∷ ids) = asks a enquiry && (all_leave a wanted (before_out a ids) && out_runs a goal wanted (out_of a ids))

-- specifications and their parts, two by two: the parts leave what is wanted
abbrev pub specs_run : Annotated → (wanted : Bool) → List ℕ → Bool
specs_run a wanted [] = true
specs_run a wanted (s ∷ []) = false
specs_run a wanted (s ∷ (part ∷ ids)) = is_outcome wanted (outcome a part) && specs_run a wanted ids

-- an enquiry of a mode that is there, and specifications whose parts leave what is wanted
abbrev pub conformity_runs : Annotated → (goal : ℕ) (wanted : Bool) → List ℕ → Bool
conformity_runs a goal wanted [] = false
conformity_runs a goal wanted (enquiry ∷ ids) =
    nat_lt (goal_at a enquiry) (length a.modes) && (asks a enquiry && (specs_run a wanted (before_out a ids) && out_runs a goal wanted (out_of a ids)))

-- ---- loops (Report, 3.5)

-- FROM, BY or TO, if any, leaves a value
abbrev pub control_runs : Annotated → Option ℕ → Bool
control_runs a part = option_map_or (λ id. is_outcome true (outcome a id)) part true

-- the phrases of an enquiry behind WHILE, whose range holds the body too
abbrev pub enquiry_runs : Annotated → (clause : Option ℕ) → Bool
enquiry_runs a clause = option_map_or (asks a) clause false

abbrev pub test_runs : Annotated → (test : Option ℕ) → Bool
test_runs a test = option_map_or (λ id. enquiry_runs a (only_id (parts_at a id))) test true

abbrev pub body_runs : Annotated → (body : Option ℕ) → Bool
body_runs a body = option_map_or (λ id. is_outcome false (outcome a id)) body false

abbrev pub loop_by_runs : Annotated → (from by to test body : Option ℕ) → Bool
loop_by_runs a from by to test body = control_runs a from && (control_runs a by && (control_runs a to && (test_runs a test && body_runs a body)))

-- FOR, FROM, BY, TO and WHILE stand in this order; FOR needs nothing
abbrev pub loop_runs : Annotated → List ℕ → Bool
loop_runs a ids =
    let froms = past (if_first is_for a ids) ids in
    let from = if_first is_from a froms in
    let bys = past from froms in
    let by = if_first is_by a bys in
    let tos = past by bys in
    let to = if_first is_to a tos in
    let tests = past to tos in
    let test = if_first is_while a tests in
    loop_by_runs a from by to test (only_id (past test tests))

-- ---- parallel clauses (Report, 3.3)

-- two units at least, each of which leaves none
abbrev pub parallel_runs : Annotated → List ℕ → Bool
parallel_runs a ids = nat_le 2 (length ids) && all_leave a false ids

-- ---- nodes

-- What the construct of a node leaves before its coercions; None where its parts do not leave
-- what it takes of them. One row for each kind of node; the others leave nothing that is known.
abbrev pub leaves_as : Annotated → Node → Note → NodeKind → Option Bool
leaves_as a node note kind.Denotation = if_so (is_some (option_and_then value_in (spelling_of a node))) true
leaves_as a node note kind.LongDenotation = if_so (is_some (option_and_then long_value_in (spelling_of a node))) true
leaves_as a node note kind.Skip = if_so (is_there a.modes note.goal) (asks_value a note)
leaves_as a node note kind.Nil = Some true
leaves_as a node note kind.Tag = Some true
leaves_as a node note kind.RoutineText = if_so (is_outcome (proc_yields a note.mode) (last_outcome a node.parts)) true
leaves_as a node note kind.Monadic = formula_leaves a (yields_value a note) note.op note.definition node.parts
leaves_as a node note kind.Dyadic = formula_leaves a (yields_value a note) note.op note.definition node.parts
leaves_as a node note kind.Assignation = if_so (refers a note.mode && are_values a 2 node.parts) true
leaves_as a node note kind.Identity = if_so (are_values a 2 node.parts) true
leaves_as a node note kind.Generator = if_so (new_runs a note.mode node.parts) true
leaves_as a node note kind.OpDefinition = if_so (is_outcome true (last_outcome a node.parts)) false
leaves_as a node note kind.IdentityDefinition = if_so (is_outcome true (last_outcome a node.parts)) false
leaves_as a node note kind.Variable = if_so (variable_runs a note.mode node.parts) false
leaves_as a node note kind.ModeDefinition = Some false
leaves_as a node note kind.Priority = Some false
leaves_as a node note kind.Joined = if_so (all_leave a false node.parts) false
leaves_as a node note kind.Call = call_leaves a (yields_value a note) node.parts
leaves_as a node note kind.Cast = last_outcome a node.parts
leaves_as a node note kind.Collateral = collateral_leaves a (shape_at a.modes note.goal) node.parts
leaves_as a node note kind.Vacuum = if_so (is_row (shape_at a.modes note.goal)) true
leaves_as a node note kind.Slice = if_so (slice_runs a node.parts) true
leaves_as a node note kind.Selection = if_so (selects a node.name node.parts && is_outcome true (last_outcome a node.parts)) true
leaves_as a node note kind.Serial = if_so (are_steps a (asks_value a note) node.parts) (asks_value a note)
leaves_as a node note kind.GoTo = if_so (is_some note.definition) (asks_value a note)
leaves_as a node note kind.Closed = only_outcome a node.parts
leaves_as a node note kind.Out = only_outcome a node.parts
leaves_as a node note kind.From = only_outcome a node.parts
leaves_as a node note kind.By = only_outcome a node.parts
leaves_as a node note kind.To = only_outcome a node.parts
leaves_as a node note kind.Lower = only_outcome a node.parts
leaves_as a node note kind.Upper = only_outcome a node.parts
leaves_as a node note kind.At = only_outcome a node.parts
leaves_as a node note kind.Conditional = if_so (choice_runs a note.goal (asks_value a note) node.parts) (asks_value a note)
leaves_as a node note kind.Case = if_so (case_runs a note.goal (asks_value a note) node.parts) (asks_value a note)
leaves_as a node note kind.Conformity = if_so (conformity_runs a note.goal (asks_value a note) node.parts) (asks_value a note)
leaves_as a node note kind.Loop = if_so (loop_runs a node.parts) false
leaves_as a node note kind.Parallel = if_so (parallel_runs a node.parts) false
leaves_as a node note _ = None

-- What is left behind the coercions of a path, which leads from a mode to another, where the unit before them leaves a value
-- or none; None where a coercion does not run (Report, 6.1.1).
abbrev pub path_leaves : List Shape → (goal mode : ℕ) → (left : Bool) → List Coercion → Option Bool
path_leaves modes goal mode left [] = Some left
path_leaves modes goal mode true (coercion.Deref ∷ path) =
    let m = behind_ref (shape_at modes mode) in
    if is_there modes m then path_leaves modes goal m true path else None
path_leaves modes goal mode true (coercion.Deproc ∷ path) =
    let m = behind_proc (shape_at modes mode) in
    path_leaves modes goal m (not (is_void (shape_at modes m))) path
path_leaves modes goal mode true (coercion.Unite from ∷ path) = path_leaves modes goal from true path
path_leaves modes goal mode true (coercion.Widen ∷ path) = path_leaves modes goal standard.ROW_OF_BOOL true path
path_leaves modes goal mode true (coercion.RowUp ∷ path) =
    option_and_then (λ m. if is_there modes m then path_leaves modes goal m true path else None) (rowed_to modes goal path)
path_leaves modes goal mode true (coercion.RowUpName ∷ path) =
    option_and_then (λ m. if is_there modes m then path_leaves modes goal m true path else None) (rowed_to modes goal path)
path_leaves modes goal mode true (coercion.Drop ∷ path) = path_leaves modes goal 0 false path
path_leaves modes goal mode false (c ∷ path) = None

abbrev pub left_by : Annotated → Node → Note → Option Bool
left_by a node note = option_and_then (λ left. path_leaves a.modes note.goal note.mode left note.path) (leaves_as a node note node.kind)

-- what a node leaves is its outcome, or it is no construct
abbrev pub agrees : (outcome left : Option Bool) → Bool
agrees None left = true
agrees (Some wanted) left = is_outcome wanted left

abbrev pub agrees_at : Annotated → Option Node → Option Note → Bool
agrees_at a (Some node) (Some note) = agrees (outcome_by a node note node.kind) (left_by a node note)
agrees_at a _ _ = true

-- a node runs: it leaves what is asked of it
unfoldable pub runs : Annotated → (id : ℕ) → Bool
runs a id = agrees_at a (slice_get a.tree.nodes id) (slice_get a.notes id)
