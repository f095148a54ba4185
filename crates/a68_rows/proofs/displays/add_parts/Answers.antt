use Rattle.std.proofs.Common.{◌++◌, ◌∷◌, [], List, ap, sym, ◌∙◌}
use Rattle.a68_acts.specs.Rowing.{joined}
use Rattle.a68_values.specs.Content.{Content}
use Rattle.a68_rows.proofs.Joining.{joined-row}
use Rattle.a68_rows.proofs.displays.add_parts.Goals as goal

pub returns-in_ok-append-in-Some : goal.returns-in_ok-append-in-Some
returns-in_ok-append-in-Some c =
    c.in_ok-append-in-Some.ensures.items
    ∙ ap (λ (xs : List Content). c.args.items.now.items ++ xs) (c.parts.view_is ∙ c.in_ok-parts-in-Some.ensures ∙ joined-row c.in-Some.bounds c.in-Some.parts ∙ ap (λ v. joined (v ∷ [])) (sym c.in-Some.ensures))
