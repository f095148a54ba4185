-- Inner: the headline does not rest on this file.
-- Choices by a number or by a mode, each the other part of the one before it, whose ends are yet to come.
use Rattle.std.specs.Prelude.{◌≡◌, ◌⊎◌, ◌<◌, ◌+◌, ℕ, Bool, List, [], ◌∷◌, length, drop, not, true, false, Some, slice_get, IfSome}
use Rattle.std.specs.Option.{option_map_or}
use Rattle.std.specs.declared.option.Option.{Option}
use Rattle.a68_annot.specs.declared.annotated.Annotated.{Annotated}
use Rattle.a68_base.specs.declared.refusal.Stop.{Stop}
use Rattle.a68_code.specs.declared.code.Instr.{Instr}
use Rattle.a68_code.specs.declared.does.Does.TheVariants as does
use Rattle.a68_acts.specs.Members.{members_of}
use Rattle.a68_elab.specs.Made.{before_out, case_of, conformity_of, goal_at, left_out, out_of, specs_of, with_enquiry}
use Rattle.a68_elab.specs.Programs.{behind, specs_seated}
use Rattle.a68_elab.specs.Trees.{Specs, Tree, Trees, conformity, count, meaningless}
use Rattle.a68_emit.specs.Chains.{TreeIsWritten, shuts}
use Rattle.a68_emit.specs.Listing.{arm_places, arm_stretches, instr, sizes, spec_places, spec_sizes, spec_stretches, stretch}
use Rattle.a68_emit.specs.Stretches.{member_places, wholes_of, with_last}
use Rattle.a68_emit.specs.Views.{laid_of, seat_of, tree_of}
use Rattle.a68_emit.specs.Writing.{aim_all, Writes}
use Rattle.a68_emit.specs.declared.view.View.{View}
use Rattle.a68_annot.specs.declared.note.Note.{Note}
use Rattle.a68_constructs.specs.declared.choices.Tail.{Tail}
use Rattle.a68_elab.specs.Runs.{runs}
use Rattle.a68_tree.specs.declared.kind.NodeKind.{NodeKind}
use Rattle.a68_tree.specs.declared.kind.NodeKind.TheVariants as kind
use Rattle.a68_tree.specs.declared.node.Node.{Node}
use Rattle.a68_constructs.specs.declared.endings.Ending.{Ending}
use Rattle.a68_modes.specs.Nodes.{shape_at, is_void}

-- the jumps of a choice come to the end of what is written, and behind that its frame is left
abbrev pub Ends : Ending → Option Stop → List Instr → Option Stop → List Instr → Type 0
Ends e stop list stop' list' = Writes stop stop' (aim_all list e.jumps.items (length list)) list' (shuts e.slots e.yields e.place)

-- Once these choices, of which the first is the outermost, are ended here, from the last to the first, what is wanted
-- is so.
abbrev pub AllEnd : List Ending → (Option Stop → List Instr → Type 0) → Option Stop → List Instr → Type 0
AllEnd [] Wanted stop list = Wanted stop list
AllEnd (e ∷ endings) Wanted stop list =
    AllEnd endings (λ s l. (s' : Option Stop) (l' : List Instr) → Ends e s l s' l' → Wanted s' l') stop list

-- once the tree is written here, and these choices are ended behind it, what is wanted is so
abbrev pub IsAwaited : (Option Stop → List Instr → Type 0) → List Ending → Tree → Option Stop → List Instr → Type 0
IsAwaited Wanted endings tree stop list =
    (s : Option Stop) (l : List Instr) → Writes stop s list l (stretch tree (length list)) → AllEnd endings Wanted s l

-- once the tree is written here, and a choice is ended behind it, the whole is written
pub record IsFront (whole tree : Tree) (e : Ending) (stop : Option Stop) (list : List Instr) (stop' : Option Stop) (list' : List Instr) : Type 0 where
  pub all : (s : Option Stop) (l : List Instr) → Writes stop' s list' l (stretch tree (length list')) → (s' : Option Stop) (l' : List Instr) → Ends e s l s' l'
      → Writes stop s' list l' (stretch whole (length list))

-- how a chain goes on: what was once the one tree were written is once the other is
pub record GoesOn (tree tree' : Tree) (es : List Ending) (stop : Option Stop) (list : List Instr) (es' : List Ending) (stop' : Option Stop) (list' : List Instr) : Type 0 where
  pub on : (t : Tree) (s0 : Option Stop) (l0 : List Instr) → IsAwaited (TreeIsWritten t s0 l0) es tree stop list → IsAwaited (TreeIsWritten t s0 l0) es' tree' stop' list'

-- the tree of a choice by a number
abbrev pub case_tree : Annotated → (ℕ → Tree) → (id place goal : ℕ) → List ℕ → Tree
case_tree a f id place goal parts = case_of a (behind id f) place goal (not (is_void (shape_at a.modes goal))) parts

-- the tree of a choice by a mode
abbrev pub conformity_tree : Annotated → (ℕ → Tree) → (id place goal : ℕ) → List ℕ → Tree
conformity_tree a f id place goal parts = conformity_of a (behind id f) place goal (not (is_void (shape_at a.modes goal))) parts

-- the tree of either
abbrev pub choice_tree : Annotated → (ℕ → Tree) → (by_mode : Bool) → (id place goal : ℕ) → List ℕ → Tree
choice_tree a f true id place goal parts = conformity_tree a f id place goal parts
choice_tree a f false id place goal parts = case_tree a f id place goal parts

-- the slots of the frame of a choice with these parts
abbrev pub slots_at : Option Note → ℕ
slots_at o = option_map_or (λ (n : Note). n.slots) o 0

abbrev pub enquiry_slots : Annotated → List ℕ → ℕ
enquiry_slots a [] = 0
enquiry_slots a (enquiry ∷ ids) = slots_at (slice_get a.notes enquiry)

-- a choice by a mode, seen from within its frame
abbrev pub laid_conformity_of : View → (f : ℕ → Tree) (specs : List ℕ → Specs) (place goal : ℕ) (yields : Bool) → List ℕ → Tree
laid_conformity_of v f specs place goal yields [] = meaningless
laid_conformity_of v f specs place goal yields (enquiry ∷ ids) =
    let a = v.of.now in
    let union = goal_at a enquiry in
    with_enquiry a f place yields enquiry
    (λ e. conformity place union (members_of (shape_at a.modes union)) yields e (specs (before_out a ids)) (option_map_or f (out_of a ids) (left_out place goal)))

abbrev pub laid_conformity : View → (id place goal : ℕ) → List ℕ → Tree
laid_conformity v id place goal parts =
    laid_conformity_of v (behind id (laid_of v)) (λ ids. specs_seated (seat_of v) (specs_of v.of.now (behind id (tree_of v)) ids)) place goal
    (not (is_void (shape_at v.of.now.modes goal))) parts

-- either, seen from within its frame
abbrev pub laid_choice : View → (by_mode : Bool) → (id place goal : ℕ) → List ℕ → Tree
laid_choice v true id place goal parts = laid_conformity v id place goal parts
laid_choice v false id place goal parts = case_tree v.of.now (laid_of v) id place goal parts

-- the same program, seen alike, with the same clauses about what is written
abbrev pub IsSeenAlike : View → View → Type 0
IsSeenAlike v w = w ≡ record v { height = w.height; depth = w.depth }

-- what is left of it behind its front, and what stands for that
abbrev pub tail_behind : Annotated → (id place goal : ℕ) → List ℕ → Tail
tail_behind a id place goal parts = record { id = id; other = out_of a (drop 1 parts); place = place; goal = goal }

abbrev pub out_tree : (ℕ → Tree) → Tail → Tree
out_tree f t = option_map_or f t.other (left_out t.place t.goal)

-- the other part stands behind the node
abbrev pub TailIsWithin : Annotated → Tail → Type 0
TailIsWithin a t = IfSome t.other (λ p. (t.id < p) × (p < length a.tree.nodes))

-- is a node a choice by a mode?
abbrev pub by_mode : NodeKind → Bool
by_mode kind.Conformity = true
by_mode k = false

-- a node is a choice by a number or by a mode
abbrev pub IsChoice : NodeKind → Type 0
IsChoice k = (k ≡ kind.Case) ⊎ (k ≡ kind.Conformity)

-- such a choice that is written as it stands
pub record IsBareChoice (a : Annotated) (id : ℕ) : Type 0 where
  pub node : Node
  pub note : Note
  pub is : slice_get a.tree.nodes id ≡ Some node
  pub noted : slice_get a.notes id ≡ Some note
  pub choice : IsChoice node.kind
  pub bare : note.path ≡ []
  pub run : runs a id ≡ true
  pub some : 0 < length node.parts

-- Case with its places, the parts and Jump 0, up to where the other part begins
abbrev pub case_front : (place : ℕ) → Trees → (at : ℕ) → List Instr
case_front place parts at =
    instr place (does.Case (with_last (arm_places parts (at + 1)) (at + 1 + sizes parts + count parts))) ∷ arm_stretches place 0 parts (at + 1)

-- Member with its places, the specifications with their parts and Jump 0, up to where the other part begins
abbrev pub member_front : (place union : ℕ) (members : List ℕ) (yields : Bool) → Specs → (at : ℕ) → List Instr
member_front place union members yields specs at =
    instr place (does.Member union (member_places members specs (spec_places specs (at + 1)) (at + 1 + spec_sizes specs)) (wholes_of members specs)) ∷ spec_stretches place 0 yields specs (at + 1)
