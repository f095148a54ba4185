-- The acts of fetching and of assigning: their steps.
use Rattle.std.specs.Prelude.{ℕ, zero, suc, ◌+◌, Bool, true, false, List, [], ◌∷◌, length, nat_eq, if◌then◌else◌}
use Rattle.a68_layout.specs.Views.{parts_in}
use Rattle.a68_layout.specs.Widths.{width_within}
use Rattle.a68_modes.specs.Nodes.{shape_at, is_plain}
use Rattle.a68_modes.specs.declared.shape.Shape.{Shape}
use Rattle.a68_modes.specs.declared.shape.Shape.TheVariants as shape
use Rattle.a68_values.specs.Content.{Content, Contents, plain, structure, row, united, no_parts, ◌and_part◌}
use Rattle.a68_values.specs.declared.held.Held.TheVariants as held
use Rattle.a68_values.specs.declared.plain.Plain.TheVariants as value
use Rattle.a68_acts.specs.declared.step.Step.{Step}
use Rattle.a68_acts.specs.declared.step.Step.TheVariants as step

-- the fields in order, from the cell on at which the first one lies; other steps stand behind theirs
abbrev pub fetch_fields : (ℕ → ℕ → List Step → List Step) → (width : ℕ → ℕ) → (fields : List (ℕ × ℕ)) → (cell : ℕ) → List Step → List Step
fetch_fields fetch width [] cell behind = behind
fetch_fields fetch width (field ∷ fields) cell behind = fetch field.1 cell (fetch_fields fetch width fields (cell + width field.1) behind)

-- a value that lies in one cell: a plain one is what the cell holds, of a union the cell tells the member, and of a row it
-- is the descriptor
abbrev pub fetch_cell : Shape → (cell : ℕ) → Step
fetch_cell (shape.Rows dims flex m) cell = step.FetchRow m cell
fetch_cell (shape.Union members) cell = step.FetchUnion cell
fetch_cell s cell = if is_plain s then step.Fetch cell else step.Stray

-- what a name refers to: a structure, its fields in order, and then the structure of them
abbrev pub fetch_by : (ℕ → ℕ → List Step → List Step) → (width : ℕ → ℕ) → Shape → (cell : ℕ) → List Step → List Step
fetch_by fetch width (shape.Struct fields) cell behind = fetch_fields fetch width fields cell (step.Structure (length fields) ∷ behind)
fetch_by fetch width (shape.Same m) cell behind = fetch m cell behind
fetch_by fetch width s cell behind = fetch_cell s cell ∷ behind

abbrev pub fetch_within : (depth : ℕ) → List Shape → (mode cell : ℕ) → List Step → List Step
fetch_within zero modes m cell behind = step.Stray ∷ behind
fetch_within (suc n) modes m cell behind = fetch_by (fetch_within n modes) (width_within n modes) (shape_at modes m) cell behind

-- the steps of fetching a value of a mode, in front of others
unfoldable pub fetch_steps : List Shape → (mode cell : ℕ) → List Step → List Step
fetch_steps modes m cell behind = fetch_within (length modes) modes m cell behind

abbrev pub count_of : Contents → ℕ
count_of no_parts = 0
count_of (v and_part vs) = suc (count_of vs)

-- the parts of a structure that has so many
abbrev pub has_parts : Content → (count : ℕ) → Bool
has_parts (structure vs) n = nat_eq (count_of vs) n
has_parts v n = false

-- the elements of a row, whose first cells these are
abbrev pub fetch_elements : List Shape → (of : ℕ) → (cells : List ℕ) → List Step → List Step
fetch_elements modes of [] behind = behind
fetch_elements modes of (cell ∷ cells) behind = fetch_steps modes of cell (fetch_elements modes of cells behind)

-- the fields in order, each of which is assigned its part
abbrev pub assign_fields : (ℕ → ℕ → Content → List Step → List Step) → (width : ℕ → ℕ) → (fields : List (ℕ × ℕ)) → (cell : ℕ) → Contents → List Step → List Step
assign_fields assign width (field ∷ fields) cell (v and_part vs) behind = assign field.1 cell v (assign_fields assign width fields (cell + width field.1) vs behind)
assign_fields assign width _ cell vs behind = behind

-- a structure, which has as many parts as there are fields
abbrev pub assign_structure : (ℕ → ℕ → Content → List Step → List Step) → (width : ℕ → ℕ) → (fields : List (ℕ × ℕ)) → (cell : ℕ) → Content → List Step → List Step
assign_structure assign width fields cell (structure vs) behind =
    if nat_eq (count_of vs) (length fields) then assign_fields assign width fields cell vs behind else step.Stray ∷ behind
assign_structure assign width fields cell v behind = step.Stray ∷ behind

abbrev pub is_union : Shape → Bool
is_union (shape.Union members) = true
is_union _ = false

-- a union; an unset one is assigned as it is
abbrev pub assign_union : (cell : ℕ) → Content → Step
assign_union cell (plain value.Unset) = step.Assign cell (held.Plain value.Unset)
assign_union cell (united m v) = step.AssignUnion cell m v
assign_union cell v = step.Stray

-- a row, flexible or not
abbrev pub assign_row : (of : ℕ) (flex : Bool) (cell : ℕ) → Content → Step
assign_row of flex cell (row bounds vs) = step.AssignRow of flex cell bounds (parts_in vs)
assign_row of flex cell v = step.Stray

-- a plain value
abbrev pub assign_plain : (is_plain : Bool) → (cell : ℕ) → Content → Step
assign_plain true cell (plain p) = step.Assign cell (held.Plain p)
assign_plain _ cell v = step.Stray

-- a value that lies in one cell
abbrev pub assign_cell : Shape → (cell : ℕ) → Content → Step
assign_cell (shape.Union members) cell v = assign_union cell v
assign_cell (shape.Rows dims flex m) cell v = assign_row m flex cell v
assign_cell s cell v = assign_plain (is_plain s) cell v

abbrev pub assign_by : (ℕ → ℕ → Content → List Step → List Step) → (width : ℕ → ℕ) → Shape → (cell : ℕ) → Content → List Step → List Step
assign_by assign width (shape.Struct fields) cell v behind = assign_structure assign width fields cell v behind
assign_by assign width (shape.Same m) cell v behind = assign m cell v behind
assign_by assign width s cell v behind = assign_cell s cell v ∷ behind

abbrev pub assign_within : (depth : ℕ) → List Shape → (mode cell : ℕ) → Content → List Step → List Step
assign_within zero modes m cell v behind = step.Stray ∷ behind
assign_within (suc n) modes m cell v behind = assign_by (assign_within n modes) (width_within n modes) (shape_at modes m) cell v behind

-- the steps of assigning a value of a mode, in front of others
unfoldable pub assign_steps : List Shape → (mode cell : ℕ) → Content → List Step → List Step
assign_steps modes m cell v behind = assign_within (length modes) modes m cell v behind

-- the elements of a row, whose first cells these are, each of which is assigned its part
abbrev pub assign_elements : List Shape → (of : ℕ) → (cells : List ℕ) → List Content → List Step → List Step
assign_elements modes of (cell ∷ cells) (v ∷ vs) behind = assign_steps modes of cell v (assign_elements modes of cells vs behind)
assign_elements modes of _ vs behind = behind
