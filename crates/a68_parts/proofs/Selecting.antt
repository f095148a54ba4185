-- Fields of structures, found in a table of all of them.
use Rattle.std.proofs.Common.{◌≡◌, ◌∙◌, ◌+◌, ℕ, zero, suc, Bool, true, false, nat_eq, List, [], ◌∷◌, ◌++◌, length, get_or, map, slice_get, take, add-one, refl, sym, ap, arith, Option, Some}
use Rattle.std.proofs.lemmas.List.{length-map}
use Rattle.std.proofs.lemmas.Option.{same_Some, slice_get-map}
use Rattle.std.specs.Option.{option_map, option_map_or}
use Rattle.std.specs.Prelude.{if◌then◌else◌}
use Rattle.a68_acts.specs.Operations as operations
use Rattle.a68_annot.specs.declared.annotated.Annotated.{Annotated}
use Rattle.a68_elab.specs.Made.{field_in, fields_at, first_goal}
use Rattle.a68_fields.specs.Fields.{AreFieldsOf, at_key, fields_of, first_field}
use Rattle.a68_fields.specs.declared.table.Field.{Field}
use Rattle.a68_modes.specs.Nodes.{shape_at}
use Rattle.a68_modes.specs.declared.shape.Shape.{Shape}
use Rattle.a68_modes.specs.declared.shape.Shape.TheVariants.{Ref, Rows, Struct}
use Rattle.a68_parts.specs.Selecting.{AreSelected, selected, selected_by, structure_at, structure_in, structure_by}
use Rattle.a68_tree.specs.declared.kind.NodeKind.TheVariants as kind
use Rattle.a68_tree.specs.declared.node.Node.{Node}

-- the first field of a tag has its place
place_found : (place name : ℕ) (fields : List (ℕ × ℕ)) → option_map_or (λ (f : Field). f.place) (first_field place name fields) (place + length fields) ≡ place + field_in name fields
place_found place name [] = refl
place_found place name (f ∷ fs) = by (nat_eq f.0 name) (place_found (suc place) name fs)
  where
    by : (b : Bool) → option_map_or (λ (g : Field). g.place) (first_field (suc place) name fs) (suc place + length fs) ≡ suc place + field_in name fs
        → option_map_or (λ (g : Field). g.place) (if b then Some (record { place = place; mode = f.1 }) else first_field (suc place) name fs) (place + suc (length fs)) ≡ place + (if b then 0 else suc (field_in name fs))
    by true rest = omega arith
    by false rest =
        let long : place + suc (length fs) ≡ suc place + length fs = omega arith in
        let more : suc place + field_in name fs ≡ place + suc (field_in name fs) = omega arith in
        ap (option_map_or (λ (g : Field). g.place) (first_field (suc place) name fs)) long ∙ rest ∙ more

module _ (modes : List Shape) where
  inner : (s : Shape) → option_map_or (λ (fs : List (ℕ × ℕ)). fs) (operations.fields_in s) [] ≡ fields_of s
  inner (Struct fs) = refl
  inner _ = refl

  behind : (m : ℕ) (s : Shape) → shape_at modes m ≡ s → option_map_or (λ (fs : List (ℕ × ℕ)). fs) (operations.fields_behind modes s) [] ≡ fields_of (shape_at modes (structure_in m s))
  behind m (Rows dims flex of) is = inner (shape_at modes of)
  behind m (Struct fs) is = sym (ap fields_of is)
  behind m _ is = sym (ap fields_of is)

  at_shape : (m : ℕ) (s : Shape) → shape_at modes m ≡ s → option_map_or (λ (fs : List (ℕ × ℕ)). fs) (operations.fields_of modes s) [] ≡ fields_of (shape_at modes (structure_by modes m s))
  at_shape m (Ref to) is = behind to (shape_at modes to) refl
  at_shape m (Rows dims flex of) is = behind m (Rows dims flex of) is
  at_shape m (Struct fs) is = behind m (Struct fs) is
  at_shape m _ is = sym (ap fields_of is)

  -- the fields of a mode are those of its structure
  pub fields_there : (m : ℕ) → fields_at modes m ≡ fields_of (shape_at modes (structure_at modes m))
  fields_there m = at_shape m (shape_at modes m) refl

  -- what the table has for a tag, or else how many fields there are
  pub place_there : (entries : List ((ℕ × ℕ) × Field)) → AreFieldsOf modes entries → (m name : ℕ)
      → option_map_or (λ (f : Field). f.place) (at_key entries (structure_at modes m) name) (length (fields_at modes m)) ≡ field_in name (fields_at modes m)
  place_there entries are m name =
      let fields = fields_at modes m in
      let long : length fields ≡ 0 + length fields = omega arith in
      let first : 0 + field_in name fields ≡ field_in name fields = omega arith in
      ap (λ found. option_map_or (λ (f : Field). f.place) found (length fields)) (are (structure_at modes m) name ∙ ap (first_field 0 name) (sym (fields_there m)))
      ∙ ap (option_map_or (λ (f : Field). f.place) (first_field 0 name fields)) long ∙ place_found 0 name fields ∙ first

-- one node more
pub map_more : {X Y : Type 0} (f : X → Y) (xs : List X) (i : ℕ) (x : X) → slice_get xs i ≡ Some x → map f (take (i + 1) xs) ≡ map f (take i xs) ++ f x ∷ []
map_more f [] i x e = absurd (cc)
map_more f (y ∷ ys) zero x e = ap (λ z. f z ∷ []) (same_Some y x e)
map_more f (y ∷ ys) (suc i) x e = rw add-one (ap (λ zs. f y ∷ zs) (ap (λ k. map f (take k ys)) (sym (add-one i)) ∙ map_more f ys i x e))

-- the field that a selection takes is that of its tag
pub taken_is : (a : Annotated) (found : Option Node) (n : Node) → found ≡ Some n → n.kind ≡ kind.Selection
    → option_map (selected a) found ≡ Some (field_in n.name (fields_at a.modes (first_goal a n.parts)))
taken_is a found n is selects = ap (option_map (selected a)) is ∙ ap (λ k. Some (selected_by a n.name n.parts k)) selects

-- ---- the places of all nodes

pub places_long : (a : Annotated) (places : List ℕ) → AreSelected a places → length places ≡ length a.tree.nodes
places_long a places are = ap (λ (l : List ℕ). length l) are ∙ length-map a.tree.nodes (selected a)

-- the place at a node is that of the field that it takes
pub place_at : (a : Annotated) (places : List ℕ) (id : ℕ) → AreSelected a places → option_map (selected a) (slice_get a.tree.nodes id) ≡ slice_get places id
place_at a places id are = sym (ap (λ (l : List ℕ). slice_get l id) are ∙ slice_get-map (selected a) a.tree.nodes id)

got_or : (xs : List ℕ) (i x : ℕ) → Some x ≡ slice_get xs i → get_or xs i 0 ≡ x
got_or [] i x e = absurd (cc)
got_or (y ∷ ys) zero x e = sym (same_Some x y e)
got_or (y ∷ ys) (suc i) x e = got_or ys i x e

pub place_is : (a : Annotated) (places : List ℕ) (id : ℕ) (n : Node) → AreSelected a places → slice_get a.tree.nodes id ≡ Some n → get_or places id 0 ≡ selected a n
place_is a places id n are is = got_or places id (selected a n) (sym (ap (option_map (selected a)) is) ∙ place_at a places id are)
