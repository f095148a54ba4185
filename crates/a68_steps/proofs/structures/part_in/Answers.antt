use Rattle.std.proofs.Common.{List, length, get_or, ap, ◌∙◌, arith}
use Rattle.a68_values.specs.Content.{Content}
use Rattle.a68_steps.proofs.Parts.{part_in-past, part_in-there}
use Rattle.a68_steps.proofs.structures.part_in.Goals as goal

pub returns-then-field-len : goal.returns-then-field-len
returns-then-field-len c =
    part_in-past c.args.field c.args.value c.in_ok-parts.parts c.in_ok-parts.ensures (omega (arith, c.len.ensures, c.if-field-len.true, ap (λ (l : List Content). length l) c.parts.view_is))

pub returns : goal.returns
returns c =
    part_in-there c.args.field c.args.value c.in_ok-parts.parts c.swap_remove-part.result c.swap_remove-part.result c.in_ok-parts.ensures
    (omega (arith, c.len.ensures, c.if-field-len.false, ap (λ (l : List Content). length l) c.parts.view_is))
    (c.swap_remove-part.ensures.value ∙ ap (λ (l : List Content). get_or l c.args.field c.swap_remove-part.result) c.parts.view_is)
