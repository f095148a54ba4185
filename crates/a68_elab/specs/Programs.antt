-- The program of an annotated tree: the trees of its nodes, and of what stands apart.
use Rattle.std.specs.Prelude.{ℕ, zero, suc, pos, Bool, true, false, not, List, [], ◌∷◌, ◌++◌, map, slice_get, nat_eq, nat_lt, if◌then◌else◌, ◌-◌, None, Some}
use Rattle.std.specs.Option.{option_map_or}
use Rattle.std.specs.declared.option.Option.{Option}
use Rattle.a68_acts.specs.Operations.{constant, nil, widen, drop}
use Rattle.a68_annot.specs.declared.annotated.Annotated.{Annotated}
use Rattle.a68_annot.specs.declared.note.Note.{Note}
use Rattle.a68_elab.specs.Made.{behind_all, behind_proc, bytes_of, coerced, further, last_id, leaf, made, mode_of, only, parts_at, seen, text_among, unit_among}
use Rattle.a68_elab.specs.Runs.{agrees, is_outcome, left_by, outcome, outcome_by}
use Rattle.a68_elab.specs.Trees.{serial, Tree, Trees, operation, together, phrases, labelled, jump, range, choice, cases, conformity, loop, call, parallel, meaningless, no_trees, ◌and_tree◌, Specs, no_specs, spec, Test, no_test, while_in, Steps, last_step, step, exit, labels_of, deeper, depth_of, Body, ParallelUnit, Apart, routine_text, parallel_unit, Program}
use Rattle.a68_elab.specs.declared.sight.Sight.{Sight}
use Rattle.a68_elab.specs.declared.sight.Sight.TheVariants as sight
use Rattle.a68_modes.specs.Nodes.{shape_at, is_void}
use Rattle.a68_tree.specs.declared.node.Node.{Node}
use Rattle.a68_values.specs.Content.{plain}
use Rattle.a68_values.specs.declared.plain.Plain.TheVariants as value

-- a construct that meets the fault Kind, since NIL is not widened, and that leaves a value or none (own)
abbrev pub misfit_value : (place : ℕ) → Tree
misfit_value place = operation place widen serial (only (leaf place nil))

abbrev pub misfit : (place : ℕ) → (wanted : Bool) → Tree
misfit place true = misfit_value place
misfit place false = operation place drop serial (only (misfit_value place))

-- the construct of a node under its coercions
abbrev pub unit : Annotated → (g : (frames id : ℕ) → Tree) (f : ℕ → Tree) → Node → Note → Tree
unit a g f node note = coerced a.modes node.span.from note.goal note.mode note.path (made a g f node note node.kind)

-- what stands for a node: its unit, where that leaves what is asked of the node; a misfit in the place of another one (own)
abbrev pub fitting : Annotated → Node → Note → Tree → Tree
fitting a node note t =
    if agrees (outcome_by a node note node.kind) (left_by a node note) then t else misfit node.span.from (is_outcome true (outcome_by a node note node.kind))

-- the tree of node `id` as it is seen, where the lists begin with node `base`: the parts of a node stand behind it
abbrev pub tree_from : Annotated → Sight → (g : (frames id : ℕ) → Tree) (base : ℕ) → List Node → List Note → (id : ℕ) → Tree
tree_from a sight g base [] notes id = meaningless
tree_from a sight g base (node ∷ nodes) [] id = meaningless
tree_from a sight g base (node ∷ nodes) (note ∷ notes) id =
    if nat_eq id base then fitting a node note (unit a g (tree_from a sight g (suc base) nodes notes) node (seen a sight note)) else tree_from a sight g (suc base) nodes notes id

-- within the bounds of a definition no mode word has bounds: what breaks this is refused, and 0 stands in its place (own)
abbrev pub no_bound : (frames id : ℕ) → Tree
no_bound frames id = leaf 0 (constant (plain (value.Int (pos 0))))

-- the tree of a bound in the definition of a mode word that is applied so many frames further in
abbrev pub defined_bound : Annotated → Sight → (frames id : ℕ) → Tree
defined_bound a sight.Here frames id = tree_from a (sight.Within frames (bytes_of a id)) no_bound 0 a.tree.nodes a.notes id
defined_bound a (sight.Within hops bytes) frames id = no_bound frames id

-- the tree of a node as it is seen
unfoldable pub tree_in : Annotated → Sight → (id : ℕ) → Tree
tree_in a sight id = tree_from a sight (defined_bound a sight) 0 a.tree.nodes a.notes id

-- the tree of a node where it is written
abbrev pub tree_at : Annotated → (id : ℕ) → Tree
tree_at a id = tree_in a sight.Here id

-- the trees of the nodes behind a node; nothing else is looked at
abbrev pub behind : (id : ℕ) → (ℕ → Tree) → ℕ → Tree
behind id f i = if nat_lt id i then f i else meaningless

-- ---- jumps

-- a label about a construct, within the same routine text and the same unit of a parallel clause: its clause stands in so many
-- frames of the activation, and began over so many of its values
pub record Mark : Type 0 where
  pub label : ℕ
  pub depth : ℕ
  pub height : ℕ

-- how many values and frames of the activation there are where a construct begins, and the labels about it, the innermost first
pub record Seat : Type 0 where
  pub height : ℕ
  pub depth : ℕ
  pub marks : List Mark

abbrev pub first_seat : Seat
first_seat = record { height = 0; depth = 0; marks = [] }

-- over one value more, where there is one
abbrev pub over : Bool → Seat → Seat
over true s = record { height = further 1 s.height; depth = s.depth; marks = s.marks }
over false s = s

-- so many frames further in
abbrev pub further_in : ℕ → Seat → Seat
further_in n s = record { height = s.height; depth = further n s.depth; marks = s.marks }

-- within a clause with these labels
abbrev pub in_clause : List ℕ → Seat → Seat
in_clause labels s = record {
  height = s.height;
  depth = s.depth;
  marks = map (λ l. record { label = l; depth = s.depth; height = s.height }) labels ++ s.marks;
}

abbrev pub mark_of : (label : ℕ) → List Mark → Option Mark
mark_of label [] = None
mark_of label (m ∷ ms) = if nat_eq label m.label then Some m else mark_of label ms

-- a jump, with its numbers; one whose label is not about it is a misfit (own)
abbrev pub jump_by : (place label : ℕ) (yields : Bool) (depth : ℕ) → Option Mark → Tree
jump_by place label yields depth None = misfit place yields
jump_by place label yields depth (Some m) = jump place label (depth - m.depth) m.height yields

abbrev pub one_if : Bool → ℕ
one_if b = if b then 1 else 0

-- the tree with the numbers of its jumps
abbrev mutual
  pub seated : Seat → Tree → Tree
  seated s (operation place op order parts) = operation place op order (all_seated s true parts)
  seated s (together parts) = together (all_seated s false parts)
  seated s (phrases place before final) = phrases place (all_seated s false before) (seated s final)
  seated s (labelled place steps) = labelled place (steps_seated (in_clause (labels_of steps) s) steps)
  seated s (jump place label frames height yields) = jump_by place label yields s.depth (mark_of label s.marks)
  seated s (range place out slots yields within) = range place out slots yields (seated (further_in 1 s) within)
  seated s (choice place enquiry if_true if_false) = choice place (seated s enquiry) (seated s if_true) (seated s if_false)
  seated s (cases place enquiry arms out) = cases place (seated s enquiry) (all_seated s false arms) (seated s out)
  seated s (conformity place union members yields enquiry specs out) = conformity place union members yields (seated s enquiry) (specs_seated s specs) (seated s out)
  seated s (loop place controls limited counts test body) =
      loop place (all_seated s true controls) limited counts (test_seated (further_in (one_if counts) (over true s)) test) (seated (further_in (depth_of counts test) (over true s)) body)
  seated s (call place yields parts) = call place yields (all_seated s true parts)
  seated s (parallel place units) = parallel place units
  seated s meaningless = meaningless

  -- parts that leave a value each, or none
  pub all_seated : Seat → (leave : Bool) → Trees → Trees
  all_seated s leave no_trees = no_trees
  all_seated s leave (t and_tree ts) = seated s t and_tree all_seated (over leave s) leave ts

  pub specs_seated : Seat → Specs → Specs
  specs_seated s no_specs = no_specs
  specs_seated s (spec takes tagged united part behind) = spec takes tagged united (seated (further_in (one_if tagged) s) part) (specs_seated s behind)

  pub test_seated : Seat → Test → Test
  test_seated s no_test = no_test
  test_seated s (while_in at slots test) = while_in at slots (seated (further_in (deeper slots 0) s) test)

  pub steps_seated : Seat → Steps → Steps
  steps_seated s (last_step labels t) = last_step labels (seated s t)
  steps_seated s (step labels t more) = step labels (seated s t) (steps_seated s more)
  steps_seated s (exit labels t more) = exit labels (seated s t) (steps_seated s more)

-- ---- programs

abbrev pub place_of : Annotated → (id : ℕ) → ℕ
place_of a id = option_map_or (λ (n : Node). n.span.from) (slice_get a.tree.nodes id) 0

-- the tree of a node of which a value is asked or none, as its surroundings tell; a misfit in the place of one that leaves
-- something else (own)
abbrev pub asked_tree : Annotated → (wanted : Bool) → (id : ℕ) → Tree
asked_tree a wanted id = seated first_seat (if is_outcome wanted (outcome a id) then tree_at a id else misfit (place_of a id) wanted)

-- whether the body of a routine text leaves a value: where the mode of the routine is not one without a yield
abbrev pub body_yields : Annotated → (id : ℕ) → Bool
body_yields a id = not (is_void (shape_at a.modes (behind_proc (shape_at a.modes (mode_of a id)))))

-- the body of a routine text is its last part
abbrev pub body_of : Annotated → (id : ℕ) → Body
body_of a id = record {
  place = place_of a id;
  yields = body_yields a id;
  tree = asked_tree a (body_yields a id) (last_id (parts_at a id));
}

-- a unit of a parallel clause that begins there
abbrev pub parallel_unit_of : Annotated → (ℕ × ℕ) → ParallelUnit
parallel_unit_of a u = record { place = u.0; tree = asked_tree a false u.1 }

-- what stands apart and begins at a byte: the unit of a parallel clause before the routine text that it is (own)
abbrev pub apart_at : Annotated → (byte : ℕ) → List Apart
apart_at a byte =
    map (λ u. parallel_unit (parallel_unit_of a u)) (unit_among a byte a.tree.nodes) ++ map (λ id. routine_text (body_of a id)) (text_among byte 0 a.tree.nodes)

-- what stands apart and begins before a byte, in order of text
abbrev pub apart_before : Annotated → (byte : ℕ) → List Apart
apart_before a zero = []
apart_before a (suc byte) = apart_before a byte ++ apart_at a byte

-- the program of an annotated tree, whose first node is that of the whole text
abbrev pub program_of : Annotated → Program
program_of a = record {
  place = place_of a 0;
  tree = asked_tree a false 0;
  apart = apart_before a (behind_all a.tree.nodes);
  modes = a.modes;
}
