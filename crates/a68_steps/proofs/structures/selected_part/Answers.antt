use Rattle.std.proofs.Common.{ap, sym, ◌∙◌}
use Rattle.a68_acts.specs.Operations as operations
use Rattle.a68_steps.proofs.structures.selected_part.Goals as goal

pub returns-in_ok-doing-in-Some : goal.returns-in_ok-doing-in-Some
returns-in_ok-doing-in-Some c rows offset =
    c.in_ok-doing-in-Some.ensures rows offset ∙ ap (operations.selected_from rows offset c.args.field) (sym c.in-Some.ensures)
