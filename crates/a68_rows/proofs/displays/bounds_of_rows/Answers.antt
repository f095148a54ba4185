use Rattle.std.proofs.Common.{◌∷◌, ap, sym, ◌∙◌}
use Rattle.a68_acts.specs.Rowing.{bounds_of_rows}
use Rattle.a68_values.specs.Nodes.{content_of}
use Rattle.a68_rows.proofs.displays.bounds_of_rows.Goals as goal

pub returns-in_ok-found-in-Row : goal.returns-in_ok-found-in-Row
returns-in_ok-found-in-Row c =
    c.in_ok-found-in-Row.ensures
    ∙ ap (λ v. bounds_of_rows (v ∷ c.in-Some.others.now)) (ap content_of (sym c.in-Row.is) ∙ c.first.view_is)
    ∙ ap bounds_of_rows (sym c.in-Some.ensures.cases.0)
