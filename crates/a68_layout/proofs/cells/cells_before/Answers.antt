use Rattle.std.proofs.Common.{◌≡◌, ◌∙◌, ◌+◌, ℕ, List, min, take, ap}
use Rattle.a68_layout.specs.Widths.{most_cells, width_of, width_of_fields, width_within}
use Rattle.a68_modes.specs.Known.{own_fields}
use Rattle.a68_modes.specs.declared.shape.Shape.{Shape}
use Rattle.a68_layout.proofs.cells.cells_before.Goals as goal

pub returns-in-Some : goal.returns-in-Some
returns-in-Some c =
    c.in-Some.ensures ∙ ap (λ (s : Shape). min (most_cells + 1) (width_of_fields (width_of c.args.modes.now) (take c.args.field (own_fields s)))) c.requires.structure

pub returns-in-None : goal.returns-in-None
returns-in-None c =
    let same : c.deref.result.now ≡ c.args.fields.now = c.deref.ensures.value ∙ c.fields.view_is in
    c.fields_width.ensures
    ∙ ap (λ n. min (most_cells + 1) (width_of_fields (width_within n c.args.modes.now) (take c.args.field c.deref.result.now))) c.len.ensures.length
    ∙ ap (λ (fs : List (ℕ × ℕ)). min (most_cells + 1) (width_of_fields (width_of c.args.modes.now) (take c.args.field fs))) same
