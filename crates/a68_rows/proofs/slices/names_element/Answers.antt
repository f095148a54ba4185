use Rattle.std.proofs.Common.{◌∙◌, ap, sym}
use Rattle.a68_acts.specs.declared.operation.Doing.TheVariants.{Yields}
use Rattle.a68_rows.proofs.Indexing.{named_element, told}
use Rattle.a68_rows.proofs.slices.names_element.Goals as goal

pub returns-in-Ok : goal.returns-in-Ok
returns-in-Ok c = ap Yields c.of.ensures ∙ ap (told c.args.scope) c.in-Ok.ensures ∙ sym (named_element c.args.scope c.args.descriptor.now c.args.at.now)

pub returns-in-Err : goal.returns-in-Err
returns-in-Err c = ap (told c.args.scope) c.in-Err.ensures ∙ sym (named_element c.args.scope c.args.descriptor.now c.args.at.now)
