use Rattle.std.proofs.Common.{◌∙◌, ap, length, List, ℕ}
use Rattle.std.specs.Option.{option_map_or}
use Rattle.a68_elab.specs.Made.{fields_at}
use Rattle.a68_fields.specs.Fields.{at_key}
use Rattle.a68_fields.specs.declared.table.Field.{Field}
use Rattle.a68_parts.proofs.Selecting.{place_there}
use Rattle.a68_parts.proofs.fields.field_at.Goals as goal

pub returns-in-Some : goal.returns-in-Some
returns-in-Some c =
    ap (λ found. option_map_or (λ (f : Field). f.place) found (length (fields_at c.args.modes.now c.args.mode)))
    (c.in-Some.ensures ∙ ap (λ m. at_key c.args.fields.now m c.args.name) c.structure_at.ensures) ∙ place_there c.args.modes.now c.args.fields.now c.requires c.args.mode c.args.name

pub returns-in-None : goal.returns-in-None
returns-in-None c =
    ap (λ (l : List (ℕ × ℕ)). length l) c.fields_at.ensures
    ∙ ap (λ found. option_map_or (λ (f : Field). f.place) found (length (fields_at c.args.modes.now c.args.mode)))
    (c.in-None.ensures ∙ ap (λ m. at_key c.args.fields.now m c.args.name) c.structure_at.ensures) ∙ place_there c.args.modes.now c.args.fields.now c.requires c.args.mode c.args.name
