use Rattle.std.proofs.Common.{◌∙◌, ap, map, sym}
use Rattle.a68_acts.specs.Rowing.{names_part}
use Rattle.a68_layout.specs.Views.{view}
use Rattle.a68_layout.specs.declared.types.Trim.TheVariants.{At}
use Rattle.a68_rows.proofs.Indexing.{told_by_ints}
use Rattle.a68_rows.proofs.slices.names_by.Goals as goal

pub returns : goal.returns
returns c =
    let row = c.args.descriptor.now in
    let scope = c.args.scope in
    c.names_element-doing.ensures ∙ ap (λ at. names_part scope (view row (map (λ i. At i) at))) (c.as_slice.ensures ∙ c.in_ok-at.ensures.ints)
    ∙ ap (λ trims. names_part scope (view row trims)) (told_by_ints c.args.trims.now (sym c.are_subscripts.ensures ∙ c.if-not-are_subscripts.false))
