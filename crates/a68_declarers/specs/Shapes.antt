-- The modes of declarers (Report, 4.6 and 7.1; where FLEX is taken away is own). A declarer has two nodes: its mode as it
-- stands, and its mode without FLEX down to the next REF or PROC.
use Rattle.std.specs.Prelude.{◌≡◌, ◌-◌, ◌∷◌, nat_le, nat_lt, ℕ, List, [], length, map, take, slice_get, Option, Some, None, Bool, true, false, if◌then◌else◌}
use Rattle.std.specs.Option.{option_map_or}
use Rattle.a68_declarers.specs.declared.form.DeclarerForm.{DeclarerForm}
use Rattle.a68_declarers.specs.declared.form.DeclarerForm.TheVariants as forms
use Rattle.a68_declarers.specs.Declarers.{is_field}
use Rattle.a68_equiv.specs.Unfolding.{flex_left}
use Rattle.a68_modes.specs.declared.shape.Shape.{Shape}
use Rattle.a68_modes.specs.declared.shape.Shape.TheVariants.{Ref, Rows, Struct, Union, Proc, Same}
use Rattle.a68_ranges.specs.Nodes.{kind_at, name_at, parts_at}
use Rattle.a68_ranges.specs.Standard.{IsModeWordOf}
use Rattle.a68_tree.specs.Trees.{Built}

-- the mode of a standard declarer, with or without its FLEX
abbrev pub standard_mode : (fixed : Bool) → (as_it_stands without_flex : ℕ) → ℕ
standard_mode true m n = n
standard_mode false m n = m

-- the mode of the last part; VOID where there is none
abbrev pub last_mode : (ℕ → ℕ) → List ℕ → ℕ
last_mode mode parts = option_map_or mode (slice_get parts (length parts - 1)) 0

-- the parts before the last one
abbrev pub front : List ℕ → List ℕ
front parts = take (length parts - 1) parts

-- The dimensions of a row: its bounds, which stand before the declarer of its elements. (In the tree of a text they are at
-- least one and fewer than the symbols.)
abbrev pub dims_of : List ℕ → ℕ
dims_of parts = if nat_le (length parts) 1 then 1 else if nat_lt 4294967295 (length parts) then 4294967295 else length parts - 1

-- the fields among these parts, each of the mode of the declarer before it
abbrev pub fields : Built → (ℕ → ℕ) → (before : ℕ) → List ℕ → List (ℕ × ℕ)
fields tree mode before [] = []
fields tree mode before (p ∷ ps) = if is_field (kind_at tree p) then (name_at tree p, before) ∷ fields tree mode before ps else fields tree mode (mode p) ps

-- the mode of the declarer of a definition
abbrev pub defined_mode : Built → (ℕ → ℕ) → Option ℕ → ℕ
defined_mode tree mode None = 0
defined_mode tree mode (Some definition) = last_mode mode (parts_at tree definition)

-- The shape of the node of a declarer, as it stands or without its FLEX. `number` gives the nodes of the declarers within
-- it. From the modes of members, parameters and results FLEX is taken away; a mode word is the mode of its definition.
abbrev pub IsShapeOf : Built → (number : ℕ → Bool → ℕ) → (d : ℕ) → (fixed : Bool) → DeclarerForm → Shape → Type 0
IsShapeOf tree number d fixed (forms.Standard m n) shape = shape ≡ Same (standard_mode fixed m n)
IsShapeOf tree number d fixed forms.Name shape = shape ≡ Ref (last_mode (λ e. number e false) (parts_at tree d))
IsShapeOf tree number d fixed (forms.Row flex) shape = shape ≡ Rows (dims_of (parts_at tree d)) (flex_left fixed flex) (last_mode (λ e. number e fixed) (parts_at tree d))
IsShapeOf tree number d fixed forms.Structure shape = shape ≡ Struct (fields tree (λ e. number e fixed) 0 (parts_at tree d))
IsShapeOf tree number d fixed forms.Union shape = shape ≡ Union (map (λ e. number e true) (parts_at tree d))
IsShapeOf tree number d fixed forms.Procedure shape = shape ≡ Proc (map (λ e. number e true) (front (parts_at tree d))) (last_mode (λ e. number e true) (parts_at tree d))
IsShapeOf tree number d fixed forms.Word shape = (definition : Option ℕ) × IsModeWordOf tree d (name_at tree d) definition × (shape ≡ Same (defined_mode tree (λ e. number e fixed) definition))
