-- Inner: the headline does not rest on this file.
-- Chains of choices, each the other part of the one before it, whose ends are yet to come.
use Rattle.std.specs.Prelude.{◌<◌, ◌+◌, ℕ, zero, suc, Bool, List, [], ◌∷◌, ◌++◌, length, IfSome}
use Rattle.std.specs.Option.{option_map_or}
use Rattle.std.specs.declared.option.Option.{Option}
use Rattle.a68_annot.specs.declared.annotated.Annotated.{Annotated}
use Rattle.a68_base.specs.declared.refusal.Stop.{Stop}
use Rattle.a68_builder.specs.Aiming.{aimed_at}
use Rattle.a68_code.specs.declared.code.Instr.{Instr}
use Rattle.a68_code.specs.declared.does.Does.TheVariants as does
use Rattle.a68_elab.specs.Made.{framed, left_out, parts_at, phrases_of, trees_at}
use Rattle.a68_elab.specs.Trees.{Tree, choice}
use Rattle.a68_emit.specs.Listing.{instr, opens, size, stretch}
use Rattle.a68_emit.specs.Stretches.{leave}
use Rattle.a68_emit.specs.Writing.{Writes}
use Rattle.a68_emit.specs.declared.chains.Link.{Link}
use Rattle.a68_emit.specs.declared.ends.Opened.{Opened}
use Rattle.a68_tree.specs.Trees.{AllBetween}

-- ---- links

abbrev pub enquiry_tree : Annotated → (ℕ → Tree) → Link → Tree
enquiry_tree a f l = phrases_of l.at (trees_at f (parts_at a l.enquiry))

-- the part that is chosen where the enquiry is false
abbrev pub other_tree : (ℕ → Tree) → Link → Tree
other_tree f l = option_map_or f l.other (left_out l.place l.goal)

-- the choice of a link, of the trees of its parts
abbrev pub link_tree : Annotated → (ℕ → Tree) → Link → Tree
link_tree a f l = framed l.at l.place l.slots l.yields (choice l.place (enquiry_tree a f l) (f l.part) (other_tree f l))

-- the parts of a link stand behind it, and those of its enquiry behind that
pub record LinkIsWithin (a : Annotated) (l : Link) : Type 0 where
  pub enquiry : (l.id < l.enquiry) × (l.enquiry < length a.tree.nodes)
  pub part : (l.id < l.part) × (l.part < length a.tree.nodes)
  pub other : IfSome l.other (λ p. (l.id < p) × (p < length a.tree.nodes))
  pub phrases : AllBetween l.enquiry (length a.tree.nodes) (parts_at a l.enquiry)

-- the enquiry, Unless x, the one part, Jump 0, x:
abbrev pub choice_list : (place : ℕ) (enquiry part : Tree) (at : ℕ) → List Instr
choice_list place enquiry part at =
    let m = at + size enquiry + 1 in
    stretch enquiry at ++ (instr place (does.Unless (m + size part + 1)) ∷ (stretch part m ++ instr place (does.Jump 0) ∷ []))

-- the same, with slots Enter before it
abbrev pub link_list : (begin slots place : ℕ) (enquiry part : Tree) (at : ℕ) → List Instr
link_list begin slots place enquiry part at = opens slots begin ++ choice_list place enquiry part (at + length (opens slots begin))

-- where its Jump stands
abbrev pub jump_of : (begin slots : ℕ) (enquiry part : Tree) (at : ℕ) → ℕ
jump_of begin slots enquiry part at = at + length (opens slots begin) + size enquiry + 1 + size part

-- ---- ends

-- with slots Leave
abbrev pub shuts : (slots : ℕ) (yields : Bool) (place : ℕ) → List Instr
shuts zero yields place = []
shuts (suc n) yields place = instr place (leave yields) ∷ []

-- the jump of a choice comes to the end of what is written, and behind that its frame is left
abbrev pub Closes : Opened → Option Stop → List Instr → Option Stop → List Instr → Type 0
Closes o stop list stop' list' = Writes stop stop' (aimed_at list o.jump 0 (length list)) list' (shuts o.slots o.yields o.place)

-- Once these choices, of which the first is the outermost, are ended here, from the last to the first, what is wanted
-- is so.
abbrev pub Finishes : List Opened → (Option Stop → List Instr → Type 0) → Option Stop → List Instr → Type 0
Finishes [] Wanted stop list = Wanted stop list
Finishes (o ∷ opens) Wanted stop list =
    Finishes opens (λ s l. (s' : Option Stop) (l' : List Instr) → Closes o s l s' l' → Wanted s' l') stop list

-- a tree is written behind this list
abbrev pub TreeIsWritten : Tree → Option Stop → List Instr → Option Stop → List Instr → Type 0
TreeIsWritten tree stop list stop' list' = Writes stop stop' list list' (stretch tree (length list))

-- once the tree is written here, and these choices are ended behind it, what is wanted is so
abbrev pub IsOpen : (Option Stop → List Instr → Type 0) → List Opened → Tree → Option Stop → List Instr → Type 0
IsOpen Wanted opens tree stop list =
    (s : Option Stop) (l : List Instr) → Writes stop s list l (stretch tree (length list)) → Finishes opens Wanted s l
