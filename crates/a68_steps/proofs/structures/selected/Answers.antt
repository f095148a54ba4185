use Rattle.std.proofs.Common.{◌≡◌, ◌<◌, ◌≤◌, ◌+◌, ℕ, Bool, List, length, take, ap, sym, ◌∙◌, arith}
use Rattle.std.specs.Prelude.{Some}
use Rattle.a68_acts.specs.Operations.{fields_of, selected_from}
use Rattle.a68_layout.specs.Widths.{width_of, width_of_fields}
use Rattle.a68_modes.specs.Nodes.{shape_at}
use Rattle.a68_steps.proofs.Parts.{selected-here, structure-shape}
use Rattle.a68_steps.proofs.structures.selected.Goals as goal

pub cells_before-offset-requires-clause-structure : goal.cells_before-offset-requires-clause-structure
cells_before-offset-requires-clause-structure c = structure-shape (shape_at c.args.modes.now c.structure_of-structure.result) c.in-Some.fields.now c.in-Some.ensures

pub cells_before-offset-requires-clause-there : goal.cells_before-offset-requires-clause-there
cells_before-offset-requires-clause-there c = omega (arith, c.len.ensures, c.if-field-len.false, ap (λ (l : List (ℕ × ℕ)). length l) c.fields.view_is)

pub returns : goal.returns
returns c =
    let modes = c.args.modes.now in
    let k = c.args.field in
    let fields = c.in-Some.fields.now in
    let here : Some fields ≡ fields_of modes (shape_at modes c.args.mode) = c.in-Some.ensures ∙ c.structure_of-structure.ensures in
    let few : k < length fields = omega (arith, c.len.ensures, c.if-field-len.false, ap (λ (l : List (ℕ × ℕ)). length l) c.fields.view_is) in
    c.in_ok-doing.ensures (width_of_fields (width_of modes) (take k fields)) c.cells_before-offset.ensures
    ∙ ap (λ (b : Bool). selected_from b (width_of_fields (width_of modes) (take k fields)) k c.args.value) c.names_rows-rows.ensures
    ∙ selected-here modes c.args.mode k c.args.value fields here few
