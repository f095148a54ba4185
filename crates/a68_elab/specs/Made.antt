-- The construct that a node of an annotated tree stands for, over the trees of its parts.
use Rattle.std.specs.Prelude.{ℕ, zero, suc, ◌+◌, pos, max, min, Bool, true, false, not, ◌&&◌, ◌||◌, List, [], ◌∷◌, ◌++◌, length, map, None, Some, codes, slice_get, take, nat_eq, nat_le, nat_lt, if◌then◌else◌}
use Rattle.std.specs.List.{list_any}
use Rattle.std.specs.Option.{is_some, option_map_or, option_and_then}
use Rattle.std.specs.declared.option.Option.{Option}
use Rattle.a68_modes.specs.declared.standard.TheConstants as standard
use Rattle.a68_acts.specs.Operations.{Operation, constant, skip, nil, routine, tag, make, heap, bind, deref, store, apply, same, slice, display, vacuum, compose, select, unite, row_up, row_up_name, widen, drop, print, whole, fields_of}
use Rattle.a68_annot.specs.declared.annotated.Annotated.{Annotated}
use Rattle.a68_annot.specs.declared.note.Note.{Note}
use Rattle.a68_acts.specs.Members.{members_of}
use Rattle.a68_base.specs.Tables.{is_listed}
use Rattle.a68_base.specs.declared.limits.TheConstants.{MOST_INSTRUCTIONS}
use Rattle.a68_base.specs.declared.refusal.Span.{Span}
use Rattle.a68_elab.specs.Constants.{long_value_in, value_in, standard_in}
use Rattle.a68_elab.specs.declared.bound.Bound.{Bound}
use Rattle.a68_elab.specs.declared.bound.Bound.TheVariants as bound
use Rattle.a68_elab.specs.declared.sight.Sight.{Sight}
use Rattle.a68_elab.specs.declared.sight.Sight.TheVariants as sight
use Rattle.a68_elab.specs.Trees.{collateral, serial, Tree, Trees, operation, together, phrases, labelled, jump, range, choice, cases, conformity, loop, call, parallel, meaningless, Steps, last_step, step, exit, Specs, no_specs, spec, Test, no_test, while_in, no_trees, ◌and_tree◌, count}
use Rattle.a68_layout.specs.Rooms.{bounds_needed}
use Rattle.a68_layout.specs.declared.types.TrimForm.{TrimForm}
use Rattle.a68_layout.specs.declared.types.TrimForm.TheVariants as form
use Rattle.a68_modes.specs.Nodes.{shape_at, is_void}
use Rattle.a68_modes.specs.declared.coercion.Coercion.{Coercion}
use Rattle.a68_modes.specs.declared.coercion.Coercion.TheVariants as coercion
use Rattle.a68_modes.specs.declared.shape.Shape.{Shape}
use Rattle.a68_modes.specs.declared.shape.Shape.TheVariants as shape
use Rattle.a68_tree.specs.declared.kind.NodeKind.{NodeKind}
use Rattle.a68_tree.specs.declared.kind.NodeKind.TheVariants as kind
use Rattle.a68_tree.specs.declared.node.Node.{Node}
use Rattle.a68_values.specs.Content.{Content, plain}
use Rattle.a68_values.specs.declared.plain.Plain.TheVariants as value

abbrev pub only : Tree → Trees
only t = t and_tree no_trees

abbrev pub all_but_last : Trees → Trees
all_but_last no_trees = no_trees
all_but_last (t and_tree no_trees) = no_trees
all_but_last (t and_tree (u and_tree ts)) = t and_tree all_but_last (u and_tree ts)

abbrev pub last_tree : Trees → Tree
last_tree no_trees = meaningless
last_tree (t and_tree no_trees) = t
last_tree (t and_tree (u and_tree ts)) = last_tree (u and_tree ts)

-- an operation without parts
abbrev pub leaf : (place : ℕ) → Operation → Tree
leaf place op = operation place op serial no_trees

-- ---- nodes

-- the trees of these nodes
abbrev pub trees_at : (ℕ → Tree) → List ℕ → Trees
trees_at f [] = no_trees
trees_at f (id ∷ ids) = f id and_tree trees_at f ids

-- ---- how constructs are seen

-- the bytes of a node
abbrev pub bytes_of : Annotated → (id : ℕ) → Span
bytes_of a id = option_map_or (λ (n : Node). n.span) (slice_get a.tree.nodes id) (record { from = 0; to = 0 })

-- so many frames more; more than a number of 32 bits tells are not told (own)
abbrev pub further : (frames hops : ℕ) → ℕ
further frames hops = min (hops + frames) 4294967295

-- a definition begins outside these bytes
abbrev pub begins_outside : Span → Option Node → Bool
begins_outside bytes None = false
begins_outside bytes (Some n) = not (nat_le bytes.from n.span.from && nat_lt n.span.from bytes.to)

-- what a node applies is defined outside these bytes; what the standard environ defines is nowhere
abbrev pub is_outside : Annotated → Span → (definition : Option ℕ) → Bool
is_outside a bytes definition = option_map_or (λ d. begins_outside bytes (slice_get a.tree.nodes d)) definition false

-- How many frames outwards that stands which a node applies: as many as its note tells; within a bound that is elaborated
-- so many frames further in, so many more where it is defined outside the bound (Report, 4.6.2; own).
abbrev pub hops_seen : Annotated → Sight → Note → ℕ
hops_seen a sight.Here note = note.step.hops
hops_seen a (sight.Within frames bytes) note = if is_outside a bytes note.definition then further frames note.step.hops else note.step.hops

-- what is known of a node, as it is seen
abbrev pub seen : Annotated → Sight → Note → Note
seen a sight note = record note { step = record { hops = hops_seen a sight note; slot = note.step.slot } }

-- the kind of a node; that of VOID where there is no such node
abbrev pub kind_at : Annotated → (id : ℕ) → NodeKind
kind_at a id = option_map_or (λ (node : Node). node.kind) (slice_get a.tree.nodes id) kind.VoidWord

abbrev pub parts_at : Annotated → (id : ℕ) → List ℕ
parts_at a id = option_map_or (λ (node : Node). node.parts) (slice_get a.tree.nodes id) []

-- the spelling of the symbol that names a node
abbrev pub spelling_of : Annotated → Node → Option (List ℕ)
spelling_of a node = slice_get a.tree.spellings node.name

-- whether a node is named by one of these words
abbrev pub is_one_of : List (List ℕ) → Option (List ℕ) → Bool
is_one_of words spelling = option_map_or (is_listed words) spelling false

abbrev pub is_heap : NodeKind → Bool
is_heap kind.Heap = true
is_heap _ = false

abbrev pub is_declarer : NodeKind → Bool
is_declarer kind.Declarer = true
is_declarer _ = false

abbrev pub is_collateral : NodeKind → Bool
is_collateral kind.Collateral = true
is_collateral _ = false

abbrev pub is_tag : NodeKind → Bool
is_tag kind.Tag = true
is_tag _ = false

-- ---- coercions

-- the mode of what a name of this mode refers to
abbrev pub behind_ref : Shape → ℕ
behind_ref (shape.Ref m) = m
behind_ref _ = 0

-- the mode of what a procedure of this mode yields
abbrev pub behind_proc : Shape → ℕ
behind_proc (shape.Proc params result) = result
behind_proc _ = 0

-- the number of a row without FLEX, and of a name, among the modes from one on
abbrev pub is_row_of : (dims of : ℕ) → Shape → Bool
is_row_of dims of (shape.Rows n false m) = nat_eq n dims && nat_eq m of
is_row_of dims of _ = false

abbrev pub is_name_of : (of : ℕ) → Shape → Bool
is_name_of of (shape.Ref m) = nat_eq m of
is_name_of of _ = false

abbrev pub found_from : (at : ℕ) → (Shape → Bool) → List Shape → Option ℕ
found_from at is [] = None
found_from at is (s ∷ modes) = if is s then Some at else found_from (suc at) is modes

-- the mode that is rowed to one: that of its elements, or the row with a dimension fewer, where it is there (Report, 6.6)
abbrev pub unrowed_by : List Shape → Shape → Option ℕ
unrowed_by modes (shape.Rows (suc zero) flex of) = Some of
unrowed_by modes (shape.Rows (suc n) flex of) = found_from 0 (is_row_of n of) modes
unrowed_by modes s = None

abbrev pub unrowed : List Shape → (mode : ℕ) → Option ℕ
unrowed modes m = unrowed_by modes (shape_at modes m)

abbrev pub unrowed_name : List Shape → (mode : ℕ) → Option ℕ
unrowed_name modes m = option_and_then (λ of. found_from 0 (is_name_of of) modes) (unrowed modes (behind_ref (shape_at modes m)))

-- the mode that a rowing reaches, behind which these coercions lead to a mode
abbrev pub rowed_to : List Shape → (goal : ℕ) → List Coercion → Option ℕ
rowed_to modes goal [] = Some goal
rowed_to modes goal (coercion.RowUp ∷ path) = option_and_then (unrowed modes) (rowed_to modes goal path)
rowed_to modes goal (coercion.RowUpName ∷ path) = option_and_then (unrowed_name modes) (rowed_to modes goal path)
rowed_to modes goal (_ ∷ path) = None

-- A unit of a mode under its coercions, from the first to the last, which lead to a mode (Report, 6.1.1). A coercion begins
-- where its unit does; a rowing to a mode that is not there stands for none.
abbrev pub coerced : List Shape → (place goal mode : ℕ) → List Coercion → Tree → Tree
coerced modes place goal mode [] t = t
coerced modes place goal mode (coercion.Deref ∷ path) t =
    let m = behind_ref (shape_at modes mode) in
    coerced modes place goal m path (operation place (deref m) serial (only t))
coerced modes place goal mode (coercion.Deproc ∷ path) t =
    let m = behind_proc (shape_at modes mode) in
    coerced modes place goal m path (call place (not (is_void (shape_at modes m))) (only t))
-- uniting names the mode from which it starts
coerced modes place goal mode (coercion.Unite from ∷ path) t = coerced modes place goal from path (operation place (unite from) serial (only t))
-- BITS become a row of BOOL
coerced modes place goal mode (coercion.Widen ∷ path) t = coerced modes place goal standard.ROW_OF_BOOL path (operation place widen serial (only t))
coerced modes place goal mode (coercion.RowUp ∷ path) t =
    option_map_or (λ m. coerced modes place goal m path (operation place (row_up m) serial (only t))) (rowed_to modes goal path) meaningless
coerced modes place goal mode (coercion.RowUpName ∷ path) t =
    option_map_or (λ m. coerced modes place goal m path (operation place (row_up_name m) serial (only t))) (rowed_to modes goal path) meaningless
coerced modes place goal mode (coercion.Drop ∷ path) t = coerced modes place goal 0 path (operation place drop serial (only t))

-- a denotation, by its value
abbrev pub denoted : (place : ℕ) → Option Content → Tree
denoted place None = meaningless
denoted place (Some v) = operation place (constant v) serial no_trees

-- the value that a tag of the standard environ stands for; a tag that is defined stands for none
abbrev pub standard_of : (definition : Option ℕ) → (spelling : Option (List ℕ)) → Option Content
standard_of (Some d) spelling = None
standard_of None spelling = option_and_then standard_in spelling

-- what an applied tag does: one that stands for no value of the standard environ yields that of its slot
abbrev pub tag_of : Option Content → (hops slot : ℕ) → Operation
tag_of (Some v) hops slot = constant v
tag_of None hops slot = tag hops slot

-- ---- bounds of actual declarers (Report, 4.6)

-- the last of some nodes; the first node of all where there is none
abbrev pub last_id : List ℕ → ℕ
last_id [] = 0
last_id (id ∷ []) = id
last_id (id ∷ (i ∷ ids)) = last_id (i ∷ ids)

abbrev pub mode_of : Annotated → (id : ℕ) → ℕ
mode_of a id = option_map_or (λ (n : Note). n.mode) (slice_get a.notes id) 0

abbrev pub is_bound : NodeKind → Bool
is_bound kind.Bound = true
is_bound _ = false

abbrev pub is_field : NodeKind → Bool
is_field kind.Field = true
is_field _ = false

abbrev pub is_lower : NodeKind → Bool
is_lower kind.Lower = true
is_lower _ = false

abbrev pub is_upper : NodeKind → Bool
is_upper kind.Upper = true
is_upper _ = false

abbrev pub is_at : NodeKind → Bool
is_at kind.At = true
is_at _ = false

abbrev pub begins_with : (NodeKind → Bool) → Annotated → List ℕ → Bool
begins_with is a [] = false
begins_with is a (id ∷ ids) = is (kind_at a id)

abbrev pub all_written : List ℕ → List Bound
all_written ids = map (λ id. bound.Written id) ids

-- the bounds of a dimension: a lower one that is left out is 1 (own)
abbrev pub dimension : Annotated → List ℕ → List Bound
dimension a ids = if begins_with is_lower a ids then all_written ids else bound.Meant 1 ∷ all_written ids

-- those of the dimensions of a row, and then those of its elements
abbrev pub row_bounds : Annotated → (inner : ℕ → List Bound) → List ℕ → List Bound
row_bounds a inner [] = []
row_bounds a inner (id ∷ ids) = if is_bound (kind_at a id) then dimension a (parts_at a id) ++ row_bounds a inner ids else inner id

-- those of each field, which are those of the declarer that stands last before it
abbrev pub field_bounds : Annotated → (inner : ℕ → List Bound) → (last : List Bound) → List ℕ → List Bound
field_bounds a inner last [] = []
field_bounds a inner last (id ∷ ids) = if is_field (kind_at a id) then last ++ field_bounds a inner last ids else field_bounds a inner (inner id) ids

abbrev pub strings : List (List ℕ)
strings = codes "STRING" ∷ []

-- whether a node is named by one of these words
abbrev pub named_at : Annotated → List (List ℕ) → (id : ℕ) → Bool
named_at a words id = option_map_or (λ (node : Node). is_one_of words (spelling_of a node)) (slice_get a.tree.nodes id) false

-- a bound of a definition that stands so many frames further out
abbrev pub from_definition : (frames : ℕ) → Bound → Bound
from_definition frames (bound.Written id) = bound.Defined frames id
from_definition frames (bound.Meant n) = bound.Meant n
from_definition frames (bound.Defined hops id) = bound.Defined (further frames hops) id

-- A mode word that stands for a definition has the bounds of the definition's declarer, which see what the definition sees;
-- any other declarer those of its fields.
abbrev pub word_bounds : Annotated → (inner : ℕ → List Bound) → Option Note → List ℕ → List Bound
word_bounds a inner None ids = []
word_bounds a inner (Some note) ids =
    option_map_or (λ d. map (from_definition note.step.hops) (inner (last_id (parts_at a d)))) note.definition (field_bounds a inner [] ids)

-- STRING is FLEX [1:0] CHAR. Behind a name, in a procedure and in a union there are no actual bounds.
abbrev pub bounds_by : Annotated → (inner : ℕ → List Bound) → (id : ℕ) → List ℕ → List Bound
bounds_by a inner id ids =
    if named_at a strings id then bound.Meant 1 ∷ bound.Meant 0 ∷ []
    else (if begins_with is_bound a ids then row_bounds a inner ids else word_bounds a inner (slice_get a.notes id) ids)

-- declarers, and mode words with their definitions, lie at most so deep within others; where a mode has no rows there are
-- none
abbrev pub bounds_within : (depth : ℕ) → Annotated → (id : ℕ) → List Bound
bounds_within zero a id = []
bounds_within (suc n) a id = if nat_eq 0 (bounds_needed a.modes (mode_of a id)) then [] else bounds_by a (bounds_within n a) id (parts_at a id)

-- one more than there may be instructions: so many bounds are too many, and further ones are not looked for (own)
unfoldable pub most_bounds : ℕ
most_bounds = suc MOST_INSTRUCTIONS

-- those of the first of these nodes, where it is a declarer: a lower and an upper one for each dimension of each row, from
-- outside inwards, fields in order
abbrev pub first_bounds : Annotated → List ℕ → List Bound
first_bounds a [] = []
first_bounds a (id ∷ ids) = if is_declarer (kind_at a id) then take most_bounds (bounds_within (length a.tree.nodes) a id) else []

-- what is elaborated for a bound of the construct that begins at a place
abbrev pub bound_tree : (g : (frames id : ℕ) → Tree) (f : ℕ → Tree) → (place : ℕ) → Bound → Tree
bound_tree g f place (bound.Written id) = f id
bound_tree g f place (bound.Meant n) = leaf place (constant (plain (value.Int (pos n))))
bound_tree g f place (bound.Defined frames id) = g frames id

abbrev pub bound_trees : (g : (frames id : ℕ) → Tree) (f : ℕ → Tree) → (place : ℕ) → List Bound → Trees
bound_trees g f place [] = no_trees
bound_trees g f place (b ∷ bounds) = bound_tree g f place b and_tree bound_trees g f place bounds

-- a new name, of scope 0 or of that of the frame, with these bounds (Report, 5.2.3)
abbrev pub new_name : (in_heap : Bool) (place mode : ℕ) → (bounds : Trees) → Tree
new_name true place mode bounds = operation place (heap mode (count bounds)) collateral bounds
new_name false place mode bounds = operation place (make mode (count bounds)) collateral bounds

-- the parts behind HEAP
abbrev pub behind_heap : (has : Bool) → List ℕ → List ℕ
behind_heap true (id ∷ ids) = ids
behind_heap _ ids = ids

-- A variable: a new name; its source, which is assigned to it; and its slot bound to it (Report, 4.4.2). A routine text
-- without a declarer before it is such a source too.
abbrev pub variable_of : (new : Tree) (begins : Bool) (place mode slot : ℕ) → Trees → Tree
variable_of new true place mode slot (declarer and_tree (source and_tree no_trees)) =
    operation place (bind slot) serial (only (operation place (store mode) serial (new and_tree only source)))
variable_of new true place mode slot (declarer and_tree no_trees) = operation place (bind slot) serial (only new)
variable_of new false place mode slot (source and_tree no_trees) =
    operation place (bind slot) serial (only (operation place (store mode) serial (new and_tree only source)))
variable_of new _ place mode slot _ = meaningless

abbrev pub variable : Annotated → (g : (frames id : ℕ) → Tree) (f : ℕ → Tree) → (place mode slot : ℕ) → List ℕ → Tree
variable a g f place mode slot ids =
    let in_heap = begins_with is_heap a ids in
    let parts = behind_heap in_heap ids in
    variable_of (new_name in_heap place mode (bound_trees g f place (first_bounds a parts))) (begins_with is_declarer a parts) place mode slot (trees_at f parts)

-- a part that is left out is a skip of the mode that is asked of it
abbrev pub left_out : (place mode : ℕ) → Tree
left_out place mode = leaf place (skip mode)

-- ---- calls

-- the spelling of what is called, where it is a tag that is not defined
abbrev pub called_by : NodeKind → (definition : Option ℕ) → (spelling : Option (List ℕ)) → Option (List ℕ)
called_by kind.Tag None spelling = spelling
called_by _ definition spelling = None

abbrev pub called_at : Annotated → Option Node → Option Note → Option (List ℕ)
called_at a (Some node) (Some note) = called_by node.kind note.definition (spelling_of a node)
called_at a _ _ = None

abbrev pub called : Annotated → (id : ℕ) → Option (List ℕ)
called a id = called_at a (slice_get a.tree.nodes id) (slice_get a.notes id)

-- print and write have the units of a collateral clause as their items, or one unit (own)
abbrev pub items_at : Annotated → List ℕ → List ℕ
items_at a (id ∷ []) = if is_collateral (kind_at a id) then parts_at a id else id ∷ []
items_at a ids = ids

abbrev pub printers : List (List ℕ)
printers = codes "print" ∷ codes "write" ∷ []

abbrev pub wholes : List (List ℕ)
wholes = codes "whole" ∷ []

-- a call of print, write or whole of the standard environ (Report, 10.3), or of a routine (Report, 5.4.3)
abbrev pub call_of : Annotated → (ℕ → Tree) → (place : ℕ) (yields : Bool) → List ℕ → Tree
call_of a f place yields [] = meaningless
call_of a f place yields (primary ∷ ids) =
    if is_one_of printers (called a primary) then operation place print collateral (trees_at f (items_at a ids))
    else (if is_one_of wholes (called a primary) then operation place whole collateral (trees_at f ids) else call place yields (f primary and_tree trees_at f ids))

-- a construct in a range, which makes a frame where it has slots: it is entered at one place and left at another (own)
abbrev pub framed : (place out slots : ℕ) (yields : Bool) → Tree → Tree
framed place out zero yields t = t
framed place out (suc n) yields t = range place out (suc n) yields t

-- a serial clause, which makes a frame where it has slots (Report, 3.2)
abbrev pub serial_of : (place slots : ℕ) (yields : Bool) → Trees → Tree
serial_of place slots yields no_trees = meaningless
serial_of place slots yields (t and_tree ts) = framed place place slots yields (phrases place (all_but_last (t and_tree ts)) (last_tree (t and_tree ts)))

-- what is its only part
abbrev pub only_of : Trees → Tree
only_of (t and_tree no_trees) = t
only_of _ = meaningless

-- ---- serial clauses with labels (Report, 3.2)

abbrev pub is_label : NodeKind → Bool
is_label kind.Label = true
is_label _ = false

abbrev pub is_exit : NodeKind → Bool
is_exit kind.Exit = true
is_exit _ = false

-- the steps of these nodes, where these labels stand before the first one
abbrev pub steps_of : Annotated → (f : ℕ → Tree) → (labels : List ℕ) → List ℕ → Steps
steps_of a f labels [] = last_step labels meaningless
steps_of a f labels (id ∷ []) = last_step labels (f id)
steps_of a f labels (id ∷ (i ∷ ids)) =
    if is_label (kind_at a id) then steps_of a f (labels ++ id ∷ []) (i ∷ ids)
    else (if is_exit (kind_at a i) then exit labels (f id) (steps_of a f [] ids) else step labels (f id) (steps_of a f [] (i ∷ ids)))

-- whether a serial clause is one with labels: one of these nodes is a label or EXIT, behind which one stands
abbrev pub is_labelled : Annotated → List ℕ → Bool
is_labelled a ids = list_any (λ id. is_label (kind_at a id) || is_exit (kind_at a id)) ids

-- a serial clause, in its frame where it has slots
abbrev pub clause_of : Annotated → (f : ℕ → Tree) → (place slots : ℕ) (yields : Bool) → List ℕ → Tree
clause_of a f place slots yields ids =
    if is_labelled a ids then framed place place slots yields (labelled place (steps_of a f [] ids))
    else serial_of place slots yields (trees_at f ids)

-- a jump to the label that its tag applies, whose numbers are set when its surroundings are known (Report, 5.4.4)
abbrev pub jump_of : (place : ℕ) (yields : Bool) → (definition : Option ℕ) → Tree
jump_of place yields None = meaningless
jump_of place yields (Some label) = jump place label 0 0 yields

-- the phrases of a serial clause in a range that is not its own
abbrev pub phrases_of : (place : ℕ) → Trees → Tree
phrases_of place no_trees = meaningless
phrases_of place (t and_tree ts) = phrases place (all_but_last (t and_tree ts)) (last_tree (t and_tree ts))

-- ---- choices

-- by the node and the note of the enquiry
abbrev pub begun_by : (f : ℕ → Tree) (out : ℕ) (yields : Bool) → Option Node → Option Note → (go : Tree → Tree) → Tree
begun_by f out yields (Some node) (Some note) go = framed node.span.from out note.slots yields (go (phrases_of node.span.from (trees_at f node.parts)))
begun_by f out yields _ _ go = meaningless

-- A construct that an enquiry begins. What the enquiry declares holds in all of it: the range is entered where the
-- enquiry begins, and left at the construct (Report, 3.4.1).
abbrev pub with_enquiry : Annotated → (f : ℕ → Tree) (out : ℕ) (yields : Bool) (enquiry : ℕ) (go : Tree → Tree) → Tree
with_enquiry a f out yields enquiry go = begun_by f out yields (slice_get a.tree.nodes enquiry) (slice_get a.notes enquiry) go

-- a choice by a truth value (Report, 3.4)
abbrev pub choice_of : Annotated → (f : ℕ → Tree) (place goal : ℕ) (yields : Bool) → List ℕ → Tree
choice_of a f place goal yields (enquiry ∷ (t ∷ [])) = with_enquiry a f place yields enquiry (λ e. choice place e (f t) (left_out place goal))
choice_of a f place goal yields (enquiry ∷ (t ∷ (o ∷ []))) = with_enquiry a f place yields enquiry (λ e. choice place e (f t) (f o))
choice_of a f place goal yields _ = meaningless

abbrev pub is_out : NodeKind → Bool
is_out kind.Out = true
is_out _ = false

-- the last of these nodes, where it is Out
abbrev pub out_of : Annotated → List ℕ → Option ℕ
out_of a [] = None
out_of a (id ∷ []) = if is_out (kind_at a id) then Some id else None
out_of a (id ∷ (i ∷ ids)) = out_of a (i ∷ ids)

-- the others
abbrev pub before_out : Annotated → List ℕ → List ℕ
before_out a [] = []
before_out a (id ∷ []) = if is_out (kind_at a id) then [] else id ∷ []
before_out a (id ∷ (i ∷ ids)) = id ∷ before_out a (i ∷ ids)

-- a choice by a number: the enquiry, two or more units, and an Out, if any (Report, 3.4)
abbrev pub case_of : Annotated → (f : ℕ → Tree) (place goal : ℕ) (yields : Bool) → List ℕ → Tree
case_of a f place goal yields [] = meaningless
case_of a f place goal yields (enquiry ∷ ids) =
    with_enquiry a f place yields enquiry (λ e. cases place e (trees_at f (before_out a ids)) (option_map_or f (out_of a ids) (left_out place goal)))

-- ---- choices by the mode of a united value (Report, 3.4)

abbrev pub goal_at : Annotated → (id : ℕ) → ℕ
goal_at a id = option_map_or (λ (n : Note). n.goal) (slice_get a.notes id) 0

-- the mode of a specification's declarer, which has no FLEX
abbrev pub spec_mode : Annotated → List ℕ → ℕ
spec_mode a [] = 0
spec_mode a (declarer ∷ ids) = goal_at a declarer

-- behind its declarer stands its tag, if any
abbrev pub has_tag : List ℕ → Bool
has_tag (declarer ∷ (parameter ∷ [])) = true
has_tag _ = false

-- a specification of a union takes what that has, united; another one what has its mode
abbrev pub spec_of : Shape → (mode : ℕ) (tagged : Bool) → Tree → Specs → Specs
spec_of (shape.Union members) m tagged t behind = spec members tagged true t behind
spec_of s m tagged t behind = spec (m ∷ []) tagged false t behind

-- the specifications and their parts, two by two
abbrev pub specs_of : Annotated → (f : ℕ → Tree) → List ℕ → Specs
specs_of a f (s ∷ (part ∷ ids)) =
    let m = spec_mode a (parts_at a s) in
    spec_of (shape_at a.modes m) m (has_tag (parts_at a s)) (f part) (specs_of a f ids)
specs_of a f _ = no_specs

abbrev pub conformity_of : Annotated → (f : ℕ → Tree) (place goal : ℕ) (yields : Bool) → List ℕ → Tree
conformity_of a f place goal yields [] = meaningless
conformity_of a f place goal yields (enquiry ∷ ids) =
    let union = goal_at a enquiry in
    with_enquiry a f place yields enquiry
    (λ e. conformity place union (members_of (shape_at a.modes union)) yields e (specs_of a f (before_out a ids)) (option_map_or f (out_of a ids) (left_out place goal)))

-- ---- loops

abbrev pub is_for : NodeKind → Bool
is_for kind.For = true
is_for _ = false

abbrev pub is_from : NodeKind → Bool
is_from kind.From = true
is_from _ = false

abbrev pub is_by : NodeKind → Bool
is_by kind.By = true
is_by _ = false

abbrev pub is_to : NodeKind → Bool
is_to kind.To = true
is_to _ = false

abbrev pub is_while : NodeKind → Bool
is_while kind.While = true
is_while _ = false

-- the first of these nodes, where it is of this kind
abbrev pub if_first : (NodeKind → Bool) → Annotated → List ℕ → Option ℕ
if_first is a [] = None
if_first is a (id ∷ ids) = if is (kind_at a id) then Some id else None

-- the nodes behind the first, where that was taken
abbrev pub past : (taken : Option ℕ) → List ℕ → List ℕ
past (Some first) (id ∷ ids) = ids
past _ ids = ids

abbrev pub only_id : List ℕ → Option ℕ
only_id (id ∷ []) = Some id
only_id _ = None

-- FROM, BY and TO; where they are left out 1, 1 and no limit (Report, 3.5.1)
abbrev pub controls_of : (f : ℕ → Tree) (place : ℕ) (from by to : Option ℕ) → Trees
controls_of f place from by to =
    let one = leaf place (constant (plain (value.Int (pos 1)))) in
    option_map_or f from one and_tree (option_map_or f by one and_tree only (option_map_or f to (leaf place (skip 1))))

abbrev pub enquiry_of : (f : ℕ → Tree) → Option Node → Option Note → Test
enquiry_of f (Some node) (Some note) = while_in node.span.from note.slots (phrases_of node.span.from (trees_at f node.parts))
enquiry_of f _ _ = while_in 0 0 meaningless

abbrev pub enquiry_at : Annotated → (f : ℕ → Tree) → (clause : Option ℕ) → Test
enquiry_at a f (Some clause) = enquiry_of f (slice_get a.tree.nodes clause) (slice_get a.notes clause)
enquiry_at a f None = while_in 0 0 meaningless

-- WHILE, whose range also holds the body
abbrev pub test_of : Annotated → (f : ℕ → Tree) → (test : Option ℕ) → Test
test_of a f None = no_test
test_of a f (Some id) = enquiry_at a f (only_id (parts_at a id))

-- a loop of these parts, as far as they are there (Report, 3.5)
abbrev pub loop_by : Annotated → (f : ℕ → Tree) → (place : ℕ) (counts : Bool) (from by to test body : Option ℕ) → Tree
loop_by a f place counts from by to test body =
    loop place (controls_of f place from by to) (is_some to) counts (test_of a f test) (option_map_or f body meaningless)

-- FOR, FROM, BY, TO and WHILE stand in this order
abbrev pub loop_of : Annotated → (f : ℕ → Tree) → (place : ℕ) → List ℕ → Tree
loop_of a f place ids =
    let tag = if_first is_for a ids in
    let froms = past tag ids in
    let from = if_first is_from a froms in
    let bys = past from froms in
    let by = if_first is_by a bys in
    let tos = past by bys in
    let to = if_first is_to a tos in
    let tests = past to tos in
    let test = if_first is_while a tests in
    loop_by a f place (is_some tag) from by to test (only_id (past test tests))

-- a formula whose operator the text defines: a call of the routine in its slot, on the operands (Report, 5.4.2.2)
abbrev pub declared_formula : (place : ℕ) (yields : Bool) → Note → (definition : Option ℕ) → Trees → Tree
declared_formula place yields note None ts = meaningless
declared_formula place yields note (Some d) ts = call place yields (leaf place (tag note.step.hops note.step.slot) and_tree ts)

-- a formula, which applies its operator to the values of its operands (Report, 5.4.2)
abbrev pub formula_by : (place : ℕ) (yields : Bool) → Note → (op : Option ℕ) → Trees → Tree
formula_by place yields note None ts = declared_formula place yields note note.definition ts
formula_by place yields note (Some row) ts = operation place (apply row) collateral ts

abbrev pub formula : (place : ℕ) (yields : Bool) → Note → Trees → Tree
formula place yields note ts = formula_by place yields note note.op ts

-- a collateral clause: of VOID its parts alone, of a structure the structure of their values, of a row the row of them
-- (Report, 3.3)
abbrev pub collateral_of : Shape → (place mode : ℕ) → Trees → Tree
collateral_of shape.Void place m ts = together ts
collateral_of (shape.Struct fields) place m ts = operation place (compose (count ts)) collateral ts
collateral_of (shape.Rows dims flex of) place m ts = operation place (display (count ts) m) collateral ts
collateral_of s place m ts = meaningless

-- ---- slices (Report, 5.3.2)

abbrev pub has_kind : (NodeKind → Bool) → Annotated → List ℕ → Bool
has_kind is a ids = list_any (λ id. is (kind_at a id)) ids

-- how an index is written, by its parts: a subscript is a unit, and all else a trimmer
abbrev pub form_of : Annotated → List ℕ → TrimForm
form_of a [] = form.Trimmer false false false
form_of a ids =
    if has_kind is_lower a ids || (has_kind is_upper a ids || has_kind is_at a ids)
    then form.Trimmer (has_kind is_lower a ids) (has_kind is_upper a ids) (has_kind is_at a ids) else form.Subscript

abbrev pub forms_of : Annotated → List ℕ → List TrimForm
forms_of a [] = []
forms_of a (id ∷ ids) = form_of a (parts_at a id) ∷ forms_of a ids

-- the units of indexes, in order of text
abbrev pub index_units : Annotated → List ℕ → List ℕ
index_units a [] = []
index_units a (id ∷ ids) = parts_at a id ++ index_units a ids

-- an element or a part of what the first of these nodes yields
abbrev pub slice_of : Annotated → (f : ℕ → Tree) → (place : ℕ) → List ℕ → Tree
slice_of a f place [] = meaningless
slice_of a f place (primary ∷ ids) = operation place (slice (forms_of a ids)) collateral (f primary and_tree trees_at f (index_units a ids))

-- the place of a field among those of a structure, by the number of its tag; that behind them where there is none
abbrev pub field_in : (name : ℕ) → List (ℕ × ℕ) → ℕ
field_in name [] = 0
field_in name (field ∷ fields) = if nat_eq field.0 name then 0 else suc (field_in name fields)

abbrev pub fields_at : List Shape → (mode : ℕ) → List (ℕ × ℕ)
fields_at modes m = option_map_or (λ fields. fields) (fields_of modes (shape_at modes m)) []

-- the mode that is asked of the first of these nodes
abbrev pub first_goal : Annotated → List ℕ → ℕ
first_goal a [] = 0
first_goal a (id ∷ ids) = option_map_or (λ (n : Note). n.goal) (slice_get a.notes id) 0

-- a selection: a field of the structure that its part yields, or the name of a field of the one to which that refers
-- (Report, 5.3.1)
abbrev pub selection_of : List Shape → (place mode name : ℕ) → Trees → Tree
selection_of modes place m name ts = operation place (select m (field_in name (fields_at modes m))) serial (only (last_tree ts))

-- 1 where an identity relation is negated
abbrev pub negated : Bool → ℕ
negated true = 1
negated false = 0

abbrev pub isnt : List (List ℕ)
isnt = codes "ISNT" ∷ codes ":/=:" ∷ []

abbrev pub heaps : List (List ℕ)
heaps = codes "HEAP" ∷ []

-- ---- routine texts (Report, 5.4.1)

abbrev pub is_routine_text : NodeKind → Bool
is_routine_text kind.RoutineText = true
is_routine_text _ = false

-- the first routine text among these nodes that begins at a byte; the nodes have numbers from one on
abbrev pub text_among : (byte from : ℕ) → List Node → List ℕ
text_among byte from [] = []
text_among byte from (n ∷ ns) = if is_routine_text n.kind && nat_eq n.span.from byte then from ∷ [] else text_among byte (suc from) ns

-- the routine texts that begin before a byte, in order of text
abbrev pub texts_before : Annotated → (byte : ℕ) → List ℕ
texts_before a zero = []
texts_before a (suc byte) = texts_before a byte ++ text_among byte 0 a.tree.nodes

-- the number of the routine text that begins at a byte: how many begin before it
abbrev pub text_number : Annotated → (byte : ℕ) → ℕ
text_number a byte = length (texts_before a byte)

-- a byte behind those at which nodes begin
abbrev pub behind_all : List Node → ℕ
behind_all [] = 0
behind_all (n ∷ ns) = max (suc n.span.from) (behind_all ns)

-- all routine texts, in order of text
abbrev pub texts_in : Annotated → List ℕ
texts_in a = texts_before a (behind_all a.tree.nodes)

-- ---- units of parallel clauses (Report, 3.3)

-- the first of these nodes that begins at a byte
abbrev pub beginning_at : Annotated → (byte : ℕ) → List ℕ → List ℕ
beginning_at a byte [] = []
beginning_at a byte (id ∷ ids) = if nat_eq (bytes_of a id).from byte then id ∷ [] else beginning_at a byte ids

abbrev pub is_parallel : NodeKind → Bool
is_parallel kind.Parallel = true
is_parallel _ = false

-- the unit of a parallel clause that begins at a byte, where this node is such a clause: where the clause begins, and the unit
abbrev pub unit_in : Annotated → (byte : ℕ) → Node → List (ℕ × ℕ)
unit_in a byte n = if is_parallel n.kind then map (λ id. (n.span.from, id)) (beginning_at a byte n.parts) else []

-- the one list, or the other where it is empty
abbrev pub or_other : List (ℕ × ℕ) → List (ℕ × ℕ) → List (ℕ × ℕ)
or_other [] other = other
or_other (x ∷ xs) other = x ∷ xs

-- the first unit among the parts of these nodes that begins at a byte
abbrev pub unit_among : Annotated → (byte : ℕ) → List Node → List (ℕ × ℕ)
unit_among a byte [] = []
unit_among a byte (n ∷ ns) = or_other (unit_in a byte n) (unit_among a byte ns)

-- the units that begin before a byte, in order of text
abbrev pub units_before : Annotated → (byte : ℕ) → List (ℕ × ℕ)
units_before a zero = []
units_before a (suc byte) = units_before a byte ++ unit_among a byte a.tree.nodes

-- the number of the unit that begins at a byte: how many begin before it
abbrev pub unit_number : Annotated → (byte : ℕ) → ℕ
unit_number a byte = length (units_before a byte)

-- all units, in order of text
abbrev pub units_in : Annotated → List (ℕ × ℕ)
units_in a = units_before a (behind_all a.tree.nodes)

-- the numbers of these units
abbrev pub numbers_of : Annotated → List ℕ → List ℕ
numbers_of a ids = map (λ id. unit_number a (bytes_of a id).from) ids

-- The construct that a node stands for: `f` gives the trees of the nodes behind it, and `g` those of the bounds that stand in
-- definitions of mode words, so many frames further out. One row for each kind of node; the others stand for none.
abbrev pub made : Annotated → (g : (frames id : ℕ) → Tree) (f : ℕ → Tree) → Node → Note → NodeKind → Tree
made a g f node note kind.Denotation = denoted node.span.from (option_and_then value_in (spelling_of a node))
made a g f node note kind.LongDenotation = denoted node.span.from (option_and_then long_value_in (spelling_of a node))
made a g f node note kind.Skip = leaf node.span.from (skip note.goal)
made a g f node note kind.Nil = leaf node.span.from nil
made a g f node note kind.RoutineText = leaf node.span.from (routine (text_number a node.span.from) note.need)
made a g f node note kind.Tag = leaf node.span.from (tag_of (standard_of note.definition (spelling_of a node)) note.step.hops note.step.slot)
made a g f node note kind.Monadic = formula node.span.from (not (is_void (shape_at a.modes note.mode))) note (trees_at f node.parts)
made a g f node note kind.Dyadic = formula node.span.from (not (is_void (shape_at a.modes note.mode))) note (trees_at f node.parts)
made a g f node note kind.Assignation = operation node.span.from (store (behind_ref (shape_at a.modes note.mode))) collateral (trees_at f node.parts)
made a g f node note kind.Identity = operation node.span.from (same (negated (is_one_of isnt (spelling_of a node)))) collateral (trees_at f node.parts)
made a g f node note kind.Generator =
    new_name (is_one_of heaps (spelling_of a node)) node.span.from (behind_ref (shape_at a.modes note.mode)) (bound_trees g f node.span.from (first_bounds a node.parts))
made a g f node note kind.OpDefinition = operation node.span.from (bind note.step.slot) serial (only (last_tree (trees_at f node.parts)))
made a g f node note kind.IdentityDefinition = operation node.span.from (bind note.step.slot) serial (only (last_tree (trees_at f node.parts)))
made a g f node note kind.Variable = variable a g f node.span.from (behind_ref (shape_at a.modes note.mode)) note.step.slot node.parts
made a g f node note kind.ModeDefinition = together no_trees
made a g f node note kind.Priority = together no_trees
made a g f node note kind.Joined = together (trees_at f node.parts)
made a g f node note kind.Call = call_of a f node.span.from (not (is_void (shape_at a.modes note.mode))) node.parts
made a g f node note kind.Cast = last_tree (trees_at f node.parts)
made a g f node note kind.Collateral = collateral_of (shape_at a.modes note.goal) node.span.from note.goal (trees_at f node.parts)
made a g f node note kind.Vacuum = leaf node.span.from (vacuum note.goal)
made a g f node note kind.Slice = slice_of a f node.span.from node.parts
made a g f node note kind.Selection = selection_of a.modes node.span.from (first_goal a node.parts) node.name (trees_at f node.parts)
made a g f node note kind.Serial = clause_of a f node.span.from note.slots (not (is_void (shape_at a.modes note.goal))) node.parts
made a g f node note kind.GoTo = jump_of node.span.from (not (is_void (shape_at a.modes note.goal))) note.definition
made a g f node note kind.Closed = only_of (trees_at f node.parts)
made a g f node note kind.Out = only_of (trees_at f node.parts)
made a g f node note kind.From = only_of (trees_at f node.parts)
made a g f node note kind.By = only_of (trees_at f node.parts)
made a g f node note kind.To = only_of (trees_at f node.parts)
made a g f node note kind.Lower = only_of (trees_at f node.parts)
made a g f node note kind.Upper = only_of (trees_at f node.parts)
made a g f node note kind.At = only_of (trees_at f node.parts)
made a g f node note kind.While = only_of (trees_at f node.parts)
made a g f node note kind.Conditional = choice_of a f node.span.from note.goal (not (is_void (shape_at a.modes note.goal))) node.parts
made a g f node note kind.Case = case_of a f node.span.from note.goal (not (is_void (shape_at a.modes note.goal))) node.parts
made a g f node note kind.Conformity = conformity_of a f node.span.from note.goal (not (is_void (shape_at a.modes note.goal))) node.parts
made a g f node note kind.Loop = loop_of a f node.span.from node.parts
made a g f node note kind.Parallel = parallel node.span.from (numbers_of a node.parts)
made a g f node note _ = meaningless
