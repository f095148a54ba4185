use Rattle.std.proofs.Common.{◌∙◌, ap}
use Rattle.std.specs.Option.{option_map}
use Rattle.a68_fields.specs.declared.table.Field.{Field}
use Rattle.a68_refusals.specs.Rules.{no_field}
use Rattle.a68_yields.proofs.Fielding.{field_found}
use Rattle.a68_refusals.proofs.node.lacking_rule.Goals as goal

pub returns-in-None : goal.returns-in-None
returns-in-None c nodes are =
    ap (λ found. no_field (option_map (λ (f : Field). f.mode) found)) c.in-None.ensures ∙ ap no_field (field_found nodes c.args.fields.now are c.args.node c.args.field)

pub returns-in-Some : goal.returns-in-Some
returns-in-Some c nodes are =
    ap (λ found. no_field (option_map (λ (f : Field). f.mode) found)) c.in-Some.ensures ∙ ap no_field (field_found nodes c.args.fields.now are c.args.node c.args.field)
