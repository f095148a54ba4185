use Rattle.std.proofs.Common.{ap, sym, ◌∙◌}
use Rattle.a68_acts.specs.Operations as operations
use Rattle.a68_steps.proofs.structures.selected_from.Goals as goal

pub returns-in-Some : goal.returns-in-Some
returns-in-Some c width e =
    c.selected_plain.ensures width c.args.field e ∙ ap (operations.selected_from c.args.rows width c.args.field) (sym c.in-Some.ensures)
