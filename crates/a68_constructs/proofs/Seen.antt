-- Choices, seen from within their frames.
use Rattle.std.proofs.Common.{◌≡◌, ◌<◌, ℕ, Bool, true, false, List, [], ◌∷◌, get_or, length, None, Some, refl, sym, ap, ◌∙◌, arith}
use Rattle.std.specs.Option.{option_map_or}
use Rattle.std.specs.Prelude.{not, slice_get}
use Rattle.std.specs.declared.option.Option.{Option}
use Rattle.a68_annot.specs.declared.annotated.Annotated.{Annotated}
use Rattle.a68_annot.specs.declared.note.Note.{Note}
use Rattle.a68_constructs.proofs.Lying.{framed_lies, level, other_behind_lies, other_lies, phrases_lie}
use Rattle.a68_constructs.specs.Endings.{IsSeenAlike, choice_tree, enquiry_slots, laid_choice, out_tree, slots_at}
use Rattle.a68_constructs.specs.declared.choices.Tail.{Tail}
use Rattle.a68_elab.specs.Made.{before_out, begun_by, framed, left_out, out_of, phrases_of, specs_of, trees_at}
use Rattle.a68_elab.specs.Programs.{all_seated, behind, specs_seated}
use Rattle.a68_elab.specs.Trees.{Tree, Trees, cases, conformity}
use Rattle.a68_emit.specs.Views.{IsAlike, depth_within, extra, laid_of, lying, seat_of, tree_of, within}
use Rattle.a68_emit.specs.declared.view.View.{View}
use Rattle.a68_modes.specs.Nodes.{is_void, shape_at}
use Rattle.a68_acts.specs.Members.{members_of}
use Rattle.a68_elab.specs.Made.{goal_at}
use Rattle.a68_tree.specs.declared.node.Node.{Node}

-- ---- views of the same program

pub alike_within : (slots : ℕ) (v w : View) → IsSeenAlike v w → IsSeenAlike v (within slots w)
alike_within slots v w e = ap (λ (x : View). let y : View = record x { depth = depth_within slots w.depth } in y) e

pub alike_on : (v w x : View) → IsSeenAlike v w → IsSeenAlike w x → IsSeenAlike v x
alike_on v w x e f = f ∙ ap (λ (y : View). let z : View = record y { height = x.height; depth = x.depth } in z) e

pub seen_is_alike : (v w : View) → IsSeenAlike v w → IsAlike v w
seen_is_alike v w e = record { of = ap (λ (x : View). x.of) e; sight = ap (λ (x : View). x.sight) e; nodes = ap (λ (x : View). length x.of.now.tree.nodes) e; left = ap extra e }

pub within_is_alike : (slots : ℕ) (v w : View) → w ≡ within slots v → IsAlike v w
within_is_alike slots v w e = record { of = ap (λ (x : View). x.of) e; sight = ap (λ (x : View). x.sight) e; nodes = ap (λ (x : View). length x.of.now.tree.nodes) e; left = ap extra e }

-- the slots of the frame of a choice
pub inner_slots : (a : Annotated) (ids : List ℕ) (note : Note) → 0 < length ids → slice_get a.notes (get_or ids 0 0) ≡ Some note → note.slots ≡ enquiry_slots a ids
inner_slots a [] note some is = absurd (omega arith)
inner_slots a (e ∷ ids) note some is = sym (ap (λ (o : Option Note). slots_at o) is)

-- ---- choices

case_lies : (v : View) (id place goal : ℕ) (yields : Bool) (units : List ℕ) (other : Option ℕ) (o : Option Node) (m : Option Note)
    → lying v (begun_by (behind id (tree_of v)) place yields o m (λ q. cases place q (trees_at (behind id (tree_of v)) units) (option_map_or (behind id (tree_of v)) other (left_out place goal))))
    ≡ begun_by (behind id (laid_of (within (slots_at m) v))) place yields o m
    (λ q. cases place q (trees_at (behind id (laid_of (within (slots_at m) v))) units) (option_map_or (behind id (laid_of (within (slots_at m) v))) other (left_out place goal)))
case_lies v id place goal yields units other None m = refl
case_lies v id place goal yields units other (Some node) None = refl
case_lies v id place goal yields units other (Some node) (Some note) =
    let w = within note.slots v in
    let f = behind id (tree_of v) in
    let g = behind id (laid_of w) in
    let at = node.span.from in
    let out = option_map_or f other (left_out place goal) in
    let whole : Tree → Trees → Tree → Tree = λ q ts u. framed at place note.slots yields (cases place q ts u) in
    framed_lies v at place note.slots yields (cases place (phrases_of at (trees_at f node.parts)) (trees_at f units) out)
    ∙ ap (λ (q : Tree). whole q (all_seated (seat_of w) false (trees_at f units)) (lying w out)) (phrases_lie (seat_of w) at (trees_at f node.parts) ∙ ap (λ (ts : Trees). phrases_of at ts) (level w id node.parts))
    ∙ ap (λ (ts : Trees). whole (phrases_of at (trees_at g node.parts)) ts (lying w out)) (level w id units)
    ∙ ap (λ (u : Tree). whole (phrases_of at (trees_at g node.parts)) (trees_at g units) u) (other_behind_lies w id other place goal)

conform_lies : (v : View) (id place goal union : ℕ) (members : List ℕ) (yields : Bool) (units : List ℕ) (other : Option ℕ) (o : Option Node) (m : Option Note)
    → lying v (begun_by (behind id (tree_of v)) place yields o m
    (λ q. conformity place union members yields q (specs_of v.of.now (behind id (tree_of v)) units) (option_map_or (behind id (tree_of v)) other (left_out place goal))))
    ≡ begun_by (behind id (laid_of (within (slots_at m) v))) place yields o m
    (λ q. conformity place union members yields q (specs_seated (seat_of (within (slots_at m) v)) (specs_of v.of.now (behind id (tree_of v)) units))
    (option_map_or (behind id (laid_of (within (slots_at m) v))) other (left_out place goal)))
conform_lies v id place goal union members yields units other None m = refl
conform_lies v id place goal union members yields units other (Some node) None = refl
conform_lies v id place goal union members yields units other (Some node) (Some note) =
    let w = within note.slots v in
    let f = behind id (tree_of v) in
    let g = behind id (laid_of w) in
    let at = node.span.from in
    let out = option_map_or f other (left_out place goal) in
    let specs = specs_of v.of.now f units in
    let whole : Tree → Tree → Tree = λ q u. framed at place note.slots yields (conformity place union members yields q (specs_seated (seat_of w) specs) u) in
    framed_lies v at place note.slots yields (conformity place union members yields (phrases_of at (trees_at f node.parts)) specs out)
    ∙ ap (λ (q : Tree). whole q (lying w out)) (phrases_lie (seat_of w) at (trees_at f node.parts) ∙ ap (λ (ts : Trees). phrases_of at ts) (level w id node.parts))
    ∙ ap (λ (u : Tree). whole (phrases_of at (trees_at g node.parts)) u) (other_behind_lies w id other place goal)

pub choice_lies : (v : View) (by_mode : Bool) (id place goal : ℕ) (ids : List ℕ) → 0 < length ids
    → lying v (choice_tree v.of.now (tree_of v) by_mode id place goal ids) ≡ laid_choice (within (enquiry_slots v.of.now ids) v) by_mode id place goal ids
choice_lies v by_mode id place goal [] some = absurd (omega arith)
choice_lies v true id place goal (e ∷ ids) some =
    let a = v.of.now in
    let union = goal_at a e in
    conform_lies v id place goal union (members_of (shape_at a.modes union)) (not (is_void (shape_at a.modes goal))) (before_out a ids) (out_of a ids) (slice_get a.tree.nodes e) (slice_get a.notes e)
choice_lies v false id place goal (e ∷ ids) some =
    let a = v.of.now in
    case_lies v id place goal (not (is_void (shape_at a.modes goal))) (before_out a ids) (out_of a ids) (slice_get a.tree.nodes e) (slice_get a.notes e)

-- what is left of one, and the next
pub out_lies : (v : View) (t : Tail) (next : ℕ) → out_tree (tree_of v) t ≡ tree_of v next → out_tree (laid_of v) t ≡ laid_of v next
out_lies v t next e = sym (other_lies v t.other t.place t.goal) ∙ ap (λ (u : Tree). lying v u) e
