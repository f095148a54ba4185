use Rattle.std.proofs.Common.{List, ap, sym, ◌∙◌}
use Rattle.a68_acts.specs.Rowing.{yielding, sliced_by}
use Rattle.a68_layout.specs.Views.{part_of}
use Rattle.a68_steps.proofs.Filled.{parts_in-contents}
use Rattle.a68_values.specs.Content.{Content}
use Rattle.a68_values.specs.Nodes.{content_of}
use Rattle.a68_rows.proofs.slices.sliced_by.Goals as goal

pub returns-in_ok-doing-in-Row : goal.returns-in_ok-doing-in-Row
returns-in_ok-doing-in-Row c =
    c.in_ok-doing-in-Row.ensures
    ∙ ap (λ (vs : List Content). yielding (part_of c.in-Row.bounds vs c.args.trims)) (c.as_slice.ensures ∙ sym (parts_in-contents c.in-Row.parts))
    ∙ ap (λ v. sliced_by v c.args.trims) (ap content_of (sym c.in-Row.is) ∙ c.primary.view_is)
