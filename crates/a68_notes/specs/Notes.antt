-- What is known of each node of a tree that breaks no rule (Report, 2.1.1.3, 3.2, 4.4, 4.8, 5.4.2, 6.1.1 and 7.2.2).
use Rattle.std.specs.Prelude.{◌≡◌, ◌-◌, ℕ, List, [], length, nat_lt, slice_get, slice_index_or, Option, Some, None, Bool, true, false, if◌then◌else◌}
use Rattle.std.specs.Option.{option_map_or}
use Rattle.a68_modes.specs.declared.standard.TheConstants as standard
use Rattle.a68_annot.specs.declared.note.Note.{Note}
use Rattle.a68_coerce.specs.Paths.{Finds, Leads}
use Rattle.a68_coerce.specs.declared.leaf.Leaf.{Leaf}
use Rattle.a68_coerce.specs.declared.leaf.Leaf.TheVariants as leaf
use Rattle.a68_declare.specs.Outcome.{ByNode}
use Rattle.a68_declarers.specs.Declarers.{form_at}
use Rattle.a68_declarers.specs.declared.form.DeclarerForm.{DeclarerForm}
use Rattle.a68_declarers.specs.declared.form.DeclarerForm.TheVariants as forms
use Rattle.a68_definitions.specs.Defined.{fixed_mode_at, mode_at, part_number}
use Rattle.a68_equiv.specs.Related.{as_it_stands}
use Rattle.a68_frames.specs.Frames.{frames_of, has_slot, slots_in, IsFirstWay}
use Rattle.a68_frames.specs.Needs.{IsNeed, UsesSlotAt, UsesTag}
use Rattle.a68_identify.specs.declared.identified.Identified.{Identified}
use Rattle.a68_identify.specs.declared.identified.Identified.TheVariants.{Declared, Standard}
use Rattle.a68_meaning.specs.declared.meaning.Meaning.{Meaning}
use Rattle.a68_modes.specs.declared.coercion.Coercion.{Coercion}
use Rattle.a68_modes.specs.declared.coercion.Sort.{Sort}
use Rattle.a68_modes.specs.declared.coercion.Sort.TheVariants as by
use Rattle.a68_modes.specs.declared.shape.Shape.{Shape}
use Rattle.a68_notes.specs.Voiding.{is_voided, voiding}
use Rattle.a68_positions.specs.Given.{finding_at, position_at}
use Rattle.a68_positions.specs.declared.position.Position.{Position}
use Rattle.a68_positions.specs.declared.position.Position.TheVariants as position
use Rattle.a68_ranges.specs.Nodes.{kind_at, name_at}
use Rattle.a68_ranges.specs.Standard.{IsModeWordOf}
use Rattle.a68_ranges.specs.Surroundings.{Lies}
use Rattle.a68_refusals.specs.First.{Asked}
use Rattle.a68_tree.specs.Trees.{Built}
use Rattle.a68_tree.specs.declared.kind.NodeKind.{NodeKind}
use Rattle.a68_tree.specs.declared.kind.NodeKind.TheVariants as kind
use Rattle.a68_tree.specs.declared.node.FrameStep.{FrameStep}
use Rattle.a68_yields.specs.Leaves.{yield_at}
use Rattle.a68_yields.specs.declared.yielding.Finding.{Finding}
use Rattle.a68_yields.specs.declared.yielding.Finding.TheVariants as finding
use Rattle.a68_yields.specs.declared.yielding.Yielding.{Yielding}
use Rattle.a68_yields.specs.declared.yielding.Yielding.TheVariants as yields

-- the mode that is asked of a node; of the collateral clause of a call of print that of what can be printed (8); VOID where none is
abbrev pub goal_of : Position → ℕ
goal_of (position.Goal m setter) = m
goal_of (position.Asks by_sort (Some m)) = m
goal_of (position.Items call) = standard.PRINTABLE
goal_of _ = standard.VOID

-- the mode that is asked at a node; at a declarer its mode without FLEX, of which a name of its values is made
abbrev pub goal_by : ByNode → (n : ℕ) → Position → NodeKind → ℕ
goal_by of n own kind.Declarer = fixed_mode_at of n
goal_by of n own _ = goal_of own

-- the mode of a unit before its coercions: what stands in strong positions only, and what hands on what is asked, has the mode that is asked
abbrev pub unit_mode : (goal : ℕ) → Yielding → ℕ
unit_mode goal (yields.Unit (leaf.Mode m)) = m
unit_mode goal _ = goal

-- the mode of what is defined, or of a unit
abbrev pub mode_by : (defined : List ℕ) → (n goal : ℕ) → Yielding → ℕ
mode_by defined n goal yields.Unknown = part_number defined n
mode_by defined n goal y = unit_mode goal y

-- the mode of a declarer as it stands, or of another node
abbrev pub mode_of : ByNode → (defined : List ℕ) → (n goal : ℕ) → Yielding → NodeKind → ℕ
mode_of of defined n goal y kind.Declarer = mode_at of n
mode_of of defined n goal y _ = mode_by defined n goal y

-- the row of a standard operator
abbrev pub row_by : Identified → Option ℕ
row_by (Standard o) = Some o.row
row_by (Declared d) = None

abbrev pub row_of : Finding → Option ℕ
row_of (finding.Operator (Some found)) = row_by found
row_of _ = None

-- where the operator is defined; none in the standard environ
abbrev pub operator_by : Identified → Option ℕ
operator_by (Declared d) = Some d
operator_by (Standard o) = None

abbrev pub operator_of : Finding → Option ℕ
operator_of (finding.Operator (Some found)) = operator_by found
operator_of _ = None

-- a definition among so many nodes; the tags of the standard environ have the numbers behind those of the nodes
abbrev pub in_text : (nodes : ℕ) → Option ℕ → Option ℕ
in_text nodes None = None
in_text nodes (Some d) = if nat_lt d nodes then Some d else None

-- where the operator is defined that a formula applies; no other node applies one
abbrev pub applied_operator : Finding → NodeKind → Option ℕ
applied_operator found kind.Monadic = operator_of found
applied_operator found kind.Dyadic = operator_of found
applied_operator found _ = None

-- where the value is defined that a node applies: a tag, or the operator of a formula; none in the standard environ. Of a jump its label.
abbrev pub definition_of : Built → (tags : List (Option ℕ)) → (n : ℕ) → Finding → NodeKind → Option ℕ
definition_of tree tags n found kind.Tag = in_text (length tree.nodes) (slice_index_or tags n None)
definition_of tree tags n found kind.GoTo = in_text (length tree.nodes) (slice_index_or tags n None)
definition_of tree tags n found form = applied_operator found form

-- a mode word stands for its definition in a surrounding range (Report, 4.8); no other declarer stands for one
abbrev pub IsWordOf : Built → (n : ℕ) → DeclarerForm → Option ℕ → Type 0
IsWordOf tree n forms.Word definition = IsModeWordOf tree n (name_at tree n) definition
IsWordOf tree n _ definition = definition ≡ None

-- where what a node applies is defined: the mode word that a declarer is, or a value
abbrev pub IsDefinitionOf : Built → (tags : List (Option ℕ)) → (n : ℕ) → Finding → NodeKind → Option ℕ → Type 0
IsDefinitionOf tree tags n found kind.Declarer definition = IsWordOf tree n (form_at tree n) definition
IsDefinitionOf tree tags n found form definition = definition ≡ definition_of tree tags n found form

-- to what the step of a node leads: to what it applies, or to the slot of what it defines
abbrev pub target_of : (n : ℕ) → (applied : Option ℕ) → (has_slot : Bool) → Option ℕ
target_of n (Some d) slot = Some d
target_of n None true = Some n
target_of n None false = None

-- a step, or the one that says nothing
abbrev pub step_or_none : Option FrameStep → FrameStep
step_or_none found = option_map_or (λ (s : FrameStep). s) found (record { hops = 0; slot = 0 })

-- the way there; nothing leads nowhere, nor does a label, which has no slot
abbrev pub IsStep : Built → (n : ℕ) → Option ℕ → FrameStep → Type 0
IsStep tree n None step = step ≡ step_or_none None
IsStep tree n (Some d) step = (found : Option FrameStep) × IsFirstWay tree n d found × (step ≡ step_or_none found)

-- so many frames stand about a node
abbrev pub HasFrames : Built → (n count : ℕ) → Type 0
HasFrames tree n count = (ranges : List ℕ) × Lies tree n ranges × (count ≡ frames_of tree ranges)

-- how many frames further in a mode word stands than its definition
abbrev pub IsDistance : Built → (n : ℕ) → Option ℕ → FrameStep → Type 0
IsDistance tree n None step = step ≡ step_or_none None
IsDistance tree n (Some d) step =
    (here : ℕ) × (there : ℕ) × HasFrames tree n here × HasFrames tree d there × (step ≡ record { hops = here - there; slot = 0 })

-- the distance of a mode word, or the way to the value that a node applies or defines
abbrev pub IsStepOf : Built → (n : ℕ) → NodeKind → (definition : Option ℕ) → FrameStep → Type 0
IsStepOf tree n kind.Declarer definition step = IsDistance tree n definition step
IsStepOf tree n form definition step = IsStep tree n (target_of n definition (has_slot form)) step

-- the coercions from a mode to another by that sort; none where nothing leads
abbrev pub AreCoercions : List Shape → Sort → (from to : ℕ) → List Coercion → Type 0
AreCoercions nodes by_sort from to path =
    (found : Option (List Coercion)) × Finds (Leads nodes by_sort (as_it_stands from) (as_it_stands to)) found
    × (path ≡ option_map_or (λ (p : List Coercion). p) found [])

-- those of a unit of one mode; none of one that may stand in strong positions only
abbrev pub IsPathFrom : List Shape → Sort → (to : ℕ) → Leaf → List Coercion → Type 0
IsPathFrom nodes by_sort to (leaf.Mode from) path = AreCoercions nodes by_sort from to path
IsPathFrom nodes by_sort to leaf.StrongOnly path = path ≡ []

-- those of what a node yields; none of what hands on what is asked, and of no unit
abbrev pub IsPathTo : List Shape → Sort → (to : ℕ) → Yielding → List Coercion → Type 0
IsPathTo nodes by_sort to (yields.Unit l) path = IsPathFrom nodes by_sort to l path
IsPathTo nodes by_sort to _ path = path ≡ []

-- those of a unit of which nothing is asked
abbrev pub IsVoidPath : List Shape → Yielding → List Coercion → Type 0
IsVoidPath nodes (yields.Unit (leaf.Mode from)) path = path ≡ voiding (length nodes) nodes from
IsVoidPath nodes _ path = path ≡ []

-- those of a unit in a strong position, of which nothing is asked or something is
abbrev pub IsStrongPath : (voided : Bool) → List Shape → (to : ℕ) → Yielding → List Coercion → Type 0
IsStrongPath true nodes to y path = IsVoidPath nodes y path
IsStrongPath false nodes to y path = IsPathTo nodes by.Strong to y path

-- the coercions of a unit of a form by what is asked of it and by what it yields
abbrev pub IsPathOf : List Shape → NodeKind → Position → Yielding → List Coercion → Type 0
IsPathOf nodes form (position.Goal m setter) y path = IsStrongPath (is_voided nodes form m) nodes m y path
IsPathOf nodes form (position.Asks by_sort (Some m)) y path = IsPathTo nodes by_sort m y path
IsPathOf nodes form _ y path = path ≡ []

-- a routine text uses a frame from outside, so many frames outwards: by a tag that is applied in it, or by the operator of a formula in it
pub data UsesFrame (a : Asked) (text hops : ℕ) : Type 0 where
  by_tag : UsesTag a.tree text hops → UsesFrame a text hops
  by_operator : (at definition : ℕ) → applied_operator (finding_at a.fs at) (kind_at a.tree at) ≡ Some definition → UsesSlotAt a.tree at definition text hops
      → UsesFrame a text hops

-- of a routine text the newest frame that it uses from outside (own; the scope of a routine, Report 7.2.2); of no other node one
abbrev pub IsNeedOf : Asked → (n : ℕ) → NodeKind → Option ℕ → Type 0
IsNeedOf a n kind.RoutineText need = IsNeed (UsesFrame a n) need
IsNeedOf a n _ need = need ≡ None

-- what is known of a node
pub record IsNote (of : ByNode) (a : Asked) (n : ℕ) (note : Note) : Type 0 where
  pub mode : note.mode ≡ mode_of of a.defined n note.goal (yield_at a.ys n) (kind_at a.tree n)
  pub goal : note.goal ≡ goal_by of n (position_at a.ps n) (kind_at a.tree n)
  pub path : IsPathOf a.nodes (kind_at a.tree n) (position_at a.ps n) (yield_at a.ys n) note.path
  pub op : note.op ≡ row_of (finding_at a.fs n)
  pub definition : IsDefinitionOf a.tree a.tags n (finding_at a.fs n) (kind_at a.tree n) note.definition
  pub step : IsStepOf a.tree n (kind_at a.tree n) note.definition note.step
  pub slots : note.slots ≡ length (slots_in a.tree n)
  pub need : IsNeedOf a n (kind_at a.tree n) note.need

-- of the nodes before one
pub record AreNotesBefore (of : ByNode) (a : Asked) (count : ℕ) (notes : List Note) : Type 0 where
  pub long : length notes ≡ count
  pub each : (n : ℕ) (note : Note) → slice_get notes n ≡ Some note → IsNote of a n note

-- of all nodes
abbrev pub AreNotes : ByNode → Asked → List Note → Type 0
AreNotes of a notes = AreNotesBefore of a (length a.tree.nodes) notes

-- what is known of a tree by its meaning
abbrev pub asked_of : Built → Meaning → Asked
asked_of tree m =
    record { tree = tree; tags = m.tags; defined = m.defined.items; nodes = m.modes; ys = m.yields.yields.items; fs = m.yields.findings.items; ps = m.positions.items }
