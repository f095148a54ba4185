use Rattle.std.proofs.Common.{ap, sym, ◌∙◌}
use Rattle.a68_acts.specs.Operations as operations
use Rattle.a68_values.specs.Content.{plain}
use Rattle.a68_steps.proofs.structures.selected_plain.Goals as goal

pub returns-in-Name : goal.returns-in-Name
returns-in-Name c width field e =
    c.selected_name.ensures width field e ∙ ap (λ p. operations.selected_from c.args.rows width field (plain p)) (sym c.in-Name.is)
