-- Inner: the headline does not rest on this file.
-- The fields of structures by their tags (Report, 5.3.1).
use Rattle.std.specs.Prelude.{◌≡◌, ◌<◌, ◌≤◌, ◌&&◌, ℕ, suc, List, [], ◌∷◌, nat_eq, Option, Some, None, Bool, true, false, if◌then◌else◌}
use Rattle.std.specs.Map.{lookup}
use Rattle.a68_fields.specs.declared.table.Field.{Field}
use Rattle.a68_modes.specs.Nodes.{shape_at}
use Rattle.a68_modes.specs.declared.shape.Shape.{Shape}
use Rattle.a68_modes.specs.declared.shape.Shape.TheVariants.{Struct}

abbrev pub fields_of : Shape → List (ℕ × ℕ)
fields_of (Struct fields) = fields
fields_of _ = []

-- the first field of a tag, of which the first of these has that place
abbrev pub first_field : (place tag : ℕ) → List (ℕ × ℕ) → Option Field
first_field place tag [] = None
first_field place tag (field ∷ fields) = if nat_eq field.0 tag then Some (record { place = place; mode = field.1 }) else first_field (suc place) tag fields

-- what a table has for a tag of the structure at a node
abbrev pub at_key : List ((ℕ × ℕ) × Field) → (node tag : ℕ) → Option Field
at_key entries node tag = lookup (λ k. nat_eq node k.0 && nat_eq tag k.1) entries

-- the table has the fields of all structures among these modes, and no others
abbrev pub AreFieldsOf : List Shape → List ((ℕ × ℕ) × Field) → Type 0
AreFieldsOf nodes entries = (node tag : ℕ) → at_key entries node tag ≡ first_field 0 tag (fields_of (shape_at nodes node))

-- the field is new, or there is one of its tag
abbrev pub IsAdded : (old new : List ((ℕ × ℕ) × Field)) → (node tag : ℕ) → Field → (is_new : Bool) → Type 0
IsAdded old new node tag field false = (new ≡ old) × ((other : Field) × (at_key old node tag ≡ Some other))
IsAdded old new node tag field true =
    (at_key old node tag ≡ None) × (at_key new node tag ≡ Some field)
    × ((n t : ℕ) → ((n ≡ node) × (t ≡ tag) → ⊥) → at_key new n t ≡ at_key old n t)

-- the fields of the structures among the first modes, and no others
abbrev pub AreFieldsBefore : List Shape → List ((ℕ × ℕ) × Field) → (count : ℕ) → Type 0
AreFieldsBefore nodes entries count =
    ((node tag : ℕ) → node < count → at_key entries node tag ≡ first_field 0 tag (fields_of (shape_at nodes node)))
    × ((node tag : ℕ) → count ≤ node → at_key entries node tag ≡ None)

-- what is there, or else what comes behind it
abbrev pub or_else : Option Field → Option Field → Option Field
or_else (Some field) next = Some field
or_else None next = next

-- other modes have the same fields at each node
abbrev pub KeepFields : (old new : List Shape) → Type 0
KeepFields old new = (node : ℕ) → fields_of (shape_at new node) ≡ fields_of (shape_at old node)
