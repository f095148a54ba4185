-- The lines that tell what the variables of a program refer to when its run has ended (own).
use Rattle.std.specs.Prelude.{ℕ, pos, Bool, true, false, ◌&&◌, ◌||◌, nat_eq, nat_le, List, [], ◌∷◌, ◌++◌, codes, None, Some, Ok, Err, slice_get, if◌then◌else◌}
use Rattle.std.specs.Option.{option_and_then, option_map_or}
use Rattle.std.specs.declared.option.Option.{Option}
use Rattle.std.specs.declared.result.Result.{Result}
use Rattle.a68_modes.specs.declared.standard.TheConstants as standard
use Rattle.a68_annot.specs.declared.annotated.Annotated.{Annotated}
use Rattle.a68_annot.specs.declared.note.Note.{Note}
use Rattle.a68_modes.specs.Nodes.{shape_at}
use Rattle.a68_modes.specs.declared.shape.Shape.{Shape}
use Rattle.a68_modes.specs.declared.shape.Shape.TheVariants.{Ref}
use Rattle.a68_ops.specs.Printed.{whole, item_text}
use Rattle.a68_ranges.specs.Definitions.{unjoined}
use Rattle.a68_ranges.specs.Nodes.{kind_at, parts_at, spelling_at}
use Rattle.a68_tree.specs.Trees.{Built}
use Rattle.a68_tree.specs.declared.kind.NodeKind.{NodeKind}
use Rattle.a68_tree.specs.declared.kind.NodeKind.TheVariants.{Closed, Variable}
use Rattle.a68_values.specs.Content.{Content, plain}
use Rattle.a68_values.specs.Longs.{number_of}
use Rattle.a68_values.specs.declared.act.FaultKind.{FaultKind}
use Rattle.a68_values.specs.declared.held.Held.{Held}
use Rattle.a68_values.specs.declared.held.Held.TheVariants as held
use Rattle.a68_values.specs.declared.kept.Kept.{Kept}
use Rattle.a68_values.specs.declared.plain.Name.{Name}
use Rattle.a68_values.specs.declared.plain.Plain.{Plain}
use Rattle.a68_values.specs.declared.plain.Plain.TheVariants as value

-- the name that a slot is bound to
abbrev pub name_in : Option (Option Content) → Option Name
name_in (Some (Some (plain (value.Name name)))) = Some name
name_in _ = None

-- the value that stands in a cell
abbrev pub plain_in : Option Held → Option Plain
plain_in (Some (held.Plain p)) = Some p
plain_in _ = None

-- the value to which the name in a slot refers when the run has ended
abbrev pub value_of : Kept → (slot : ℕ) → Option Plain
value_of kept slot = option_and_then (λ (name : Name). plain_in (slice_get kept.cells name.cell)) (name_in (slice_get kept.outer slot))

-- the mode of a value of INT, LONG INT, BOOL, CHAR or BITS, by its number; VOID of every other
abbrev pub mode_of : Plain → ℕ
mode_of (value.Int v) = standard.INT
mode_of (value.Long v) = standard.LONG_INT
mode_of (value.Bool v) = standard.BOOL
mode_of (value.Char v) = standard.CHAR
mode_of (value.Bits v) = standard.BITS
mode_of _ = standard.VOID

-- an INT and a LONG INT as `whole (v, 0)` writes it, the others as `print` does
abbrev pub written : Plain → Result (List ℕ) FaultKind
written (value.Int v) = whole v (pos 0)
written (value.Long v) = whole (number_of v) (pos 0)
written p = item_text (plain p)

abbrev pub or_unset : Result (List ℕ) FaultKind → List ℕ
or_unset (Ok text) = text
or_unset (Err why) = codes "unset"

-- the text of a variable of a name of that mode: its value, where there is one of the mode
abbrev pub value_text : (mode : ℕ) → Option Plain → List ℕ
value_text mode None = codes "unset"
value_text mode (Some p) = if nat_eq (mode_of p) mode then or_unset (written p) else codes "unset"

-- the line of a variable: `tag = text`
abbrev pub line : (tag : List ℕ) (mode : ℕ) → Option Plain → List ℕ
line tag mode value = tag ++ codes " = " ++ value_text mode value ++ 10 ∷ []

-- the mode to which names of a mode refer, where it is INT, LONG INT, BOOL, CHAR or BITS
abbrev pub told_mode : Shape → Option ℕ
told_mode (Ref mode) = if (nat_le standard.INT mode && nat_le mode standard.BITS) || nat_eq mode standard.LONG_INT then Some mode else None
told_mode _ = None

abbrev pub is_variable : NodeKind → Bool
is_variable Variable = true
is_variable _ = false

abbrev pub noted_line : Annotated → Kept → (tag : Option (List ℕ)) → Note → List ℕ
noted_line program kept tag note =
    option_map_or (λ mode. line (option_map_or (λ bytes. bytes) tag []) mode (value_of kept note.step.slot)) (told_mode (shape_at program.modes note.mode)) []

-- the line of a definition: variables of names of these modes have one, and nothing else has
abbrev pub definition_line : Annotated → Kept → (id : ℕ) → List ℕ
definition_line program kept id =
    if is_variable (kind_at program.tree id) then option_map_or (noted_line program kept (spelling_at program.tree id)) (slice_get program.notes id) [] else []

abbrev pub definition_lines : Annotated → Kept → List ℕ → List ℕ
definition_lines program kept [] = []
definition_lines program kept (id ∷ ids) = definition_line program kept id ++ definition_lines program kept ids

-- the phrases of the program's own range: of the Serial of a closed clause; no other program has one
abbrev pub own_phrases : Built → NodeKind → List ℕ
own_phrases tree Closed = option_map_or (parts_at tree) (slice_get (parts_at tree 0) 0) []
own_phrases tree _ = []

-- a line for each variable that the program's own range declares, in order of text
abbrev pub names_text : Annotated → Kept → List ℕ
names_text program kept = definition_lines program kept (unjoined program.tree (own_phrases program.tree (kind_at program.tree 0)))
