use Rattle.std.proofs.Common.{◌∙◌, ap, sym}
use Rattle.a68_refusals.specs.Rules.{field_rule}
use Rattle.a68_refusals.proofs.node.field_rule.Goals as goal

pub returns-in-Some : goal.returns-in-Some
returns-in-Some c nodes are = c.lacking_rule.ensures nodes are ∙ ap (field_rule nodes c.args.field) (sym c.in-Some.is)

pub returns-in-None : goal.returns-in-None
returns-in-None c nodes are = ap (field_rule nodes c.args.field) (sym c.in-None.is)
