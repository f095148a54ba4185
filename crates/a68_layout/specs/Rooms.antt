-- The cells of a new name: those of the name itself, then all rows among them have their elements, then all rows among
-- these theirs, and so on inwards (own).
use Rattle.std.specs.Prelude.{ℕ, zero, suc, ℤ, ◌+◌, ◌*◌, List, [], ◌∷◌, ◌++◌, length, take, drop, nat_lt, nat_eq, Bool, true, false, ◌||◌, Ok, Err, if◌then◌else◌}
use Rattle.std.specs.declared.result.Result.{Result}
use Rattle.a68_layout.specs.Widths.{most_cells, cells_of, elements_of, dims_of}
use Rattle.a68_layout.specs.declared.types.Plan.{Plan}
use Rattle.a68_modes.specs.Nodes.{shape_at}
use Rattle.a68_modes.specs.declared.shape.Shape.{Shape}
use Rattle.a68_modes.specs.declared.shape.Shape.TheVariants.{Rows, Struct, Same}
use Rattle.a68_values.specs.Content.{Content, Contents, structure, row as row_value, no_parts, ◌and_part◌}
use Rattle.a68_values.specs.declared.act.FaultKind.{FaultKind}
use Rattle.a68_values.specs.declared.act.FaultKind.TheVariants as fault
use Rattle.a68_values.specs.declared.held.Held.{Held}
use Rattle.a68_values.specs.declared.held.Held.TheVariants as held
use Rattle.a68_values.specs.declared.plain.Plain.TheVariants.{Unset}

-- what a new name is made of: a cell, several things side by side, or a row, each of whose elements takes so many cells
mutual
  pub data Room : Type 0 where
    cell : Room
    several : (parts : Rooms) → Room
    row : (bounds : List (ℤ × ℤ)) (width : ℕ) (elements : Rooms) → Room

  pub data Rooms : Type 0 where
    no_rooms : Rooms
    ◌and_room◌ : Room → Rooms → Rooms

infixr 50 ◌and_room◌
abbrev pub copies : ℕ → Room → Rooms
copies zero r = no_rooms
copies (suc n) r = r and_room copies n r

-- ---- with given bounds: a lower and an upper one for each dimension of each row, from outside inwards, fields in order

abbrev pub needs_of_fields : (ℕ → ℕ) → List (ℕ × ℕ) → ℕ
needs_of_fields f [] = 0
needs_of_fields f (field ∷ fields) = f field.1 + needs_of_fields f fields

abbrev pub needs_by : (ℕ → ℕ) → Shape → ℕ
needs_by f (Rows dims flex m) = dims + f m
needs_by f (Struct fields) = needs_of_fields f fields
needs_by f (Same m) = f m
needs_by f _ = 0

-- how many dimensions the rows of a name of a mode have
abbrev pub needs_within : (depth : ℕ) → List Shape → (mode : ℕ) → ℕ
needs_within zero modes m = 0
needs_within (suc n) modes m = needs_by (needs_within n modes) (shape_at modes m)

-- how many bounds a name of a mode has
unfoldable pub bounds_needed : List Shape → (mode : ℕ) → ℕ
bounds_needed modes m = 2 * needs_within (length modes) modes m

abbrev pub pairs_of : List ℤ → List (ℤ × ℤ)
pairs_of (l ∷ (u ∷ bs)) = (l, u) ∷ pairs_of bs
pairs_of _ = []

-- the fields, each with the bounds that are its, and those of the fields behind it
abbrev pub rooms_of : (ℕ → List (ℤ × ℤ) → Room) → (ℕ → ℕ) → (fields : List (ℕ × ℕ)) → List (ℤ × ℤ) → Rooms
rooms_of make needs [] bs = no_rooms
rooms_of make needs (field ∷ fields) bs = make field.1 bs and_room rooms_of make needs fields (drop (needs field.1) bs)

abbrev pub row_room : (make : List (ℤ × ℤ) → Room) (width : ℕ) → (bounds inner : List (ℤ × ℤ)) → Room
row_room make width bounds inner = row bounds width (copies (elements_of bounds) (make inner))

abbrev pub room_by : (ℕ → List (ℤ × ℤ) → Room) → (needs : ℕ → ℕ) → (width : ℕ → ℕ) → Shape → List (ℤ × ℤ) → Room
room_by make needs width (Rows dims flex m) bs = row_room (make m) (width m) (take dims bs) (drop dims bs)
room_by make needs width (Struct fields) bs = several (rooms_of make needs fields bs)
room_by make needs width (Same m) bs = make m bs
room_by make needs width _ bs = cell

-- what a name of the mode is made of: it takes the first of these bounds
abbrev pub room_within : (depth : ℕ) → List Shape → (mode : ℕ) → List (ℤ × ℤ) → Room
room_within zero modes m bs = cell
room_within (suc n) modes m bs = room_by (room_within n modes) (needs_within n modes) (cells_of modes) (shape_at modes m) bs

-- ---- with the bounds that a value has

abbrev pub elements_for : (Content → Room) → Contents → Rooms
elements_for make no_parts = no_rooms
elements_for make (v and_part vs) = make v and_room elements_for make vs

abbrev pub parts_for : (ℕ → Content → Room) → List (ℕ × ℕ) → Contents → Rooms
parts_for make (field ∷ fields) (v and_part vs) = make field.1 v and_room parts_for make fields vs
parts_for make _ vs = no_rooms

-- a value that is no row has no bounds
abbrev pub row_for : (make : Content → Room) (width : ℕ) → Content → Room
row_for make width (row_value bounds vs) = row bounds width (elements_for make vs)
row_for make width _ = cell

abbrev pub structure_for : (ℕ → Content → Room) → List (ℕ × ℕ) → Content → Room
structure_for make fields (structure vs) = several (parts_for make fields vs)
structure_for make fields _ = cell

abbrev pub room_for_by : (ℕ → Content → Room) → (width : ℕ → ℕ) → Shape → Content → Room
room_for_by make width (Rows dims flex m) v = row_for (make m) (width m) v
room_for_by make width (Struct fields) v = structure_for make fields v
room_for_by make width (Same m) v = make m v
room_for_by make width _ v = cell

abbrev pub room_for_within : (depth : ℕ) → List Shape → (mode : ℕ) → Content → Room
room_for_within zero modes m v = cell
room_for_within (suc n) modes m v = room_for_by (room_for_within n modes) (cells_of modes) (shape_at modes m) v

-- ---- cells

-- what takes a cell of its own so many rows inwards, in order
abbrev mutual
  pub inwards : (rows : ℕ) → Room → List Room
  inwards n (several parts) = all_inwards n parts
  inwards zero r = r ∷ []
  inwards (suc n) (row bounds width elements) = all_inwards n elements
  inwards (suc n) cell = []

  pub all_inwards : (rows : ℕ) → Rooms → List Room
  all_inwards n no_rooms = []
  all_inwards n (r and_room rs) = inwards n r ++ all_inwards n rs

-- what their cells hold, where the elements of the rows among them begin at `next`
abbrev pub own_cells : (next : ℕ) → List Room → List Held
own_cells next [] = []
own_cells next (row bounds width elements ∷ rs) =
    held.Rows (record { base = next; dims = dims_of width bounds }) ∷ own_cells (next + width * elements_of bounds) rs
own_cells next (_ ∷ rs) = held.Plain Unset ∷ own_cells next rs

-- behind the elements of the rows among them
abbrev pub reach : (next : ℕ) → List Room → ℕ
reach next [] = next
reach next (row bounds width elements ∷ rs) = reach (next + width * elements_of bounds) rs
reach next (_ ∷ rs) = reach next rs

-- the cells of so many levels, from the one so many rows inwards on, which begin at `at`
abbrev pub levels : (count rows at : ℕ) → Rooms → List Held
levels zero n at rs = []
levels (suc count) n at rs = own_cells (at + length (all_inwards n rs)) (all_inwards n rs) ++ levels count (suc n) (at + length (all_inwards n rs)) rs

-- Whether elements of rows among them would lie above the cells that there may be: where each value has its mode, and each
-- mode is a finite one, they do so only where there are too many cells (own).
abbrev pub is_far : (count rows at : ℕ) → Rooms → Bool
is_far zero n at rs = false
is_far (suc count) n at rs = nat_lt most_cells (reach (at + length (all_inwards n rs)) (all_inwards n rs)) || is_far count (suc n) (at + length (all_inwards n rs)) rs

-- all cells: no row lies deeper within others than there are nodes
abbrev pub cells_in : List Shape → Rooms → List Held
cells_in modes rs = levels (suc (length modes)) 0 0 rs

-- the plan of cells, where there are not too many
abbrev pub within_limit : (far : Bool) → List Held → Result Plan FaultKind
within_limit far cells = if far || nat_lt most_cells (length cells) then Err fault.Cells else Ok (record { cells = cells; shifted = true })

abbrev pub plan_in : List Shape → Rooms → Result Plan FaultKind
plan_in modes rs = within_limit (is_far (suc (length modes)) 0 0 rs) (cells_in modes rs)

-- the cells of a new name of a mode with these bounds; another number of bounds meets Kind
unfoldable pub planned : List Shape → (mode : ℕ) → List ℤ → Result Plan FaultKind
planned modes m bs =
    if nat_eq (length bs) (bounds_needed modes m) then plan_in modes (room_within (length modes) modes m (pairs_of bs) and_room no_rooms) else Err fault.Kind

-- the cells of a new name of a mode for a value (own)
unfoldable pub planned_for : List Shape → (mode : ℕ) → Content → Result Plan FaultKind
planned_for modes m v = plan_in modes (room_for_within (length modes) modes m v and_room no_rooms)

-- the cells of new elements of a row, for their values
unfoldable pub planned_elements : List Shape → (mode : ℕ) → Contents → Result Plan FaultKind
planned_elements modes m vs = plan_in modes (elements_for (room_for_within (length modes) modes m) vs)
