use Rattle.std.proofs.Common.{List, length, get_or, ap, ◌∙◌, arith}
use Rattle.a68_values.specs.Content.{Content}
use Rattle.a68_steps.proofs.Parts.{no-part, this-part}
use Rattle.a68_steps.proofs.structures.part_at.Goals as goal

pub returns-then-field-len : goal.returns-then-field-len
returns-then-field-len c = no-part c.args.field c.args.parts (omega (arith, c.len.ensures, c.if-field-len.true, ap (λ (l : List Content). length l) c.parts.view_is))

pub returns : goal.returns
returns c =
    this-part c.args.field c.args.parts c.swap_remove-part.result c.swap_remove-part.result
    (omega (arith, c.len.ensures, c.if-field-len.false, ap (λ (l : List Content). length l) c.parts.view_is))
    (c.swap_remove-part.ensures.value ∙ ap (λ (l : List Content). get_or l c.args.field c.swap_remove-part.result) c.parts.view_is)
