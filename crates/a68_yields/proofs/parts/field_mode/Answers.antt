use Rattle.std.proofs.Common.{◌∙◌, ap}
use Rattle.std.specs.Option.{option_map}
use Rattle.a68_fields.specs.declared.table.Field.{Field}
use Rattle.a68_yields.proofs.Fielding.{field_found}
use Rattle.a68_yields.proofs.parts.field_mode.Goals as goal

pub returns-in-Some : goal.returns-in-Some
returns-in-Some c nodes are = ap (option_map (λ (f : Field). f.mode)) c.in-Some.ensures ∙ field_found nodes c.args.fields.now are c.args.node c.args.tag

pub returns-in-None : goal.returns-in-None
returns-in-None c nodes are = ap (option_map (λ (f : Field). f.mode)) c.in-None.ensures ∙ field_found nodes c.args.fields.now are c.args.node c.args.tag
