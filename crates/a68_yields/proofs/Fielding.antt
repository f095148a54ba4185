-- Fields of structures, found in a table of all of them.
use Rattle.std.proofs.Common.{◌≡◌, ◌∙◌, ℕ, suc, Bool, true, false, nat_eq, List, [], ◌∷◌, refl, ap, Some}
use Rattle.std.specs.Option.{option_map}
use Rattle.std.specs.Prelude.{if◌then◌else◌, zero}
use Rattle.a68_fields.proofs.Keeping.{keeps_on, pushed_keeps}
use Rattle.a68_fields.specs.Fields.{AreFieldsOf, KeepFields, at_key, fields_of, first_field}
use Rattle.a68_fields.specs.declared.table.Field.{Field}
use Rattle.a68_mode_table.specs.Growing.{IsInterned}
use Rattle.a68_mode_table.specs.Growing.IsInterned.{an_old_one, a_new_one}
use Rattle.a68_modes.specs.Nodes.{shape_at}
use Rattle.a68_modes.specs.declared.shape.Shape.{Shape}
use Rattle.a68_modes.specs.declared.shape.Shape.TheVariants.{Ref, Rows, Struct}
use Rattle.a68_yields.specs.Parts as parts
use Rattle.a68_yields.specs.Parts.{IsModeOfPart, IsNamedPart, IsRowPart, field_mode}
use Rattle.a68_yields.specs.declared.parts.Part.{Part}

mode_found : (place tag : ℕ) (fields : List (ℕ × ℕ)) → option_map (λ (f : Field). f.mode) (first_field place tag fields) ≡ field_mode tag fields
mode_found place tag [] = refl
mode_found place tag (f ∷ fs) = by (nat_eq f.0 tag) (mode_found (suc place) tag fs)
  where
    by : (b : Bool) → option_map (λ (g : Field). g.mode) (first_field (suc place) tag fs) ≡ field_mode tag fs
        → option_map (λ (g : Field). g.mode) (if b then Some (record { place = place; mode = f.1 }) else first_field (suc place) tag fs) ≡ (if b then Some f.1 else field_mode tag fs)
    by true rest = refl
    by false rest = rest

same_fields : (shape : Shape) → fields_of shape ≡ parts.fields_of shape
same_fields (Struct fields) = refl
same_fields _ = refl

-- what the table has for a tag is the field of that tag
pub field_found : (nodes : List Shape) (entries : List ((ℕ × ℕ) × Field)) → AreFieldsOf nodes entries → (node tag : ℕ)
    → option_map (λ (f : Field). f.mode) (at_key entries node tag) ≡ field_mode tag (parts.fields_of (shape_at nodes node))
field_found nodes entries are node tag =
    ap (option_map (λ (f : Field). f.mode)) (are node tag) ∙ mode_found 0 tag (fields_of (shape_at nodes node)) ∙ ap (field_mode tag) (same_fields (shape_at nodes node))

-- ---- modes that a part adds, none of which is a structure

interned_keeps : (old new : List Shape) (shape : Shape) (id : ℕ) → fields_of shape ≡ [] → IsInterned old shape new id → KeepFields old new
interned_keeps old new shape id none (an_old_one there is same) = λ node. ap (λ nodes. fields_of (shape_at nodes node)) same
interned_keeps old new shape id none (a_new_one other pushed last) = λ node. ap (λ nodes. fields_of (shape_at nodes node)) pushed ∙ pushed_keeps old shape none node

row_keeps : (old new : List Shape) (dims : ℕ) (flex : Bool) (of id : ℕ) → IsRowPart old dims flex of new id → KeepFields old new
row_keeps old new zero flex of id p = λ node. ap (λ nodes. fields_of (shape_at nodes node)) p.0
row_keeps old new (suc dims) flex of id p =
    keeps_on old p.between new (interned_keeps old p.between (Rows (suc dims) false p.fixed_element) p.fixed refl p.fixed_is) (interned_keeps p.between new (Rows (suc dims) flex of) id refl p.is)

named_keeps : (named : Bool) (old new : List Shape) (of id : ℕ) → IsNamedPart named old of new id → KeepFields old new
named_keeps false old new of id p = λ node. ap (λ nodes. fields_of (shape_at nodes node)) p.0
named_keeps true old new of id p = interned_keeps old new (Ref of) id refl p

pub part_keeps : (old new : List Shape) (part : Part) (id : ℕ) → IsModeOfPart old part new id → KeepFields old new
part_keeps old new part id p = keeps_on old p.between new (row_keeps old p.between part.dims _ part.of p.row p.row_is) (named_keeps part.named p.between new p.row id p.is)
