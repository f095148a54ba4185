-- Modes that others join, none of which is a structure.
use Rattle.std.proofs.Common.{◌≡◌, ◌<◌, ℕ, zero, suc, List, [], ◌∷◌, ◌++◌, refl}
use Rattle.a68_fields.specs.Fields.{AreFieldsOf, KeepFields, at_key, fields_of, first_field}
use Rattle.a68_fields.specs.declared.table.Field.{Field}
use Rattle.a68_modes.specs.Nodes.{shape_at}
use Rattle.a68_modes.specs.declared.shape.Shape.{Shape}
use Rattle.std.proofs.Common.{ap, sym, ◌∙◌}

-- one mode more that has no fields
pub pushed_keeps : (nodes : List Shape) (shape : Shape) → fields_of shape ≡ [] → KeepFields nodes (nodes ++ shape ∷ [])
pushed_keeps [] shape none zero = none
pushed_keeps [] shape none (suc node) = refl
pushed_keeps (s ∷ ss) shape none zero = refl
pushed_keeps (s ∷ ss) shape none (suc node) = pushed_keeps ss shape none node

pub keeps_on : (one next last : List Shape) → KeepFields one next → KeepFields next last → KeepFields one last
keeps_on one next last a b node = b node ∙ a node

-- a table of the fields of modes is one of those that have the same fields
pub fields_stay : (old new : List Shape) (entries : List ((ℕ × ℕ) × Field)) → KeepFields old new → AreFieldsOf old entries → AreFieldsOf new entries
fields_stay old new entries keeps are node tag = are node tag ∙ ap (first_field 0 tag) (sym (keeps node))
