-- Elements and parts of rows (Report, 5.3.2.2).
use Rattle.std.specs.Prelude.{ℕ, zero, suc, ℤ, pos, ◌+◌, ◌*◌, ◌-◌, ◌+ℤ◌, ◌-ℤ◌, nat_abs, Bool, true, false, not, ◌&&◌, ◌||◌, List, [], ◌∷◌, ◌++◌, length, map, None, Some, Ok, Err, int_lt, nat_lt, nat_eq, slice_get, if◌then◌else◌}
use Rattle.std.specs.declared.option.Option.{Option}
use Rattle.std.specs.Option.{option_to_list}
use Rattle.std.specs.declared.result.Result.{Result}
use Rattle.a68_layout.specs.Widths.{most_cells, between, dims_of, elements_of}
use Rattle.a68_layout.specs.declared.types.Trim.{Trim}
use Rattle.a68_layout.specs.declared.types.Trim.TheVariants.{At, Part}
use Rattle.a68_ops.specs.Yields.{is_int}
use Rattle.a68_values.specs.Content.{Content, Contents, row, no_parts, ◌and_part◌, contents_of}
use Rattle.a68_values.specs.declared.act.FaultKind.{FaultKind}
use Rattle.a68_values.specs.declared.act.FaultKind.TheVariants as fault
use Rattle.a68_values.specs.declared.held.Descriptor.{Descriptor}
use Rattle.a68_values.specs.declared.held.Dim.{Dim}

abbrev pub bounds_of : List Dim → List (ℤ × ℤ)
bounds_of dims = map (λ (dim : Dim). (dim.lower, dim.upper)) dims

abbrev pub is_outside : Dim → ℤ → Bool
is_outside dim i = int_lt i dim.lower || int_lt dim.upper i

-- how far a subscript lies behind the lower bound, in cells
abbrev pub behind : Dim → ℤ → ℕ
behind dim i = nat_abs (i -ℤ dim.lower) * dim.stride

-- what is taken of a dimension: how far behind its first element that begins, in cells, and the dimension that stays, if
-- one does
abbrev pub Taken : Type 0
Taken = Result (ℕ × Option Dim) FaultKind

abbrev pub says_nothing : (lower upper at : Option ℤ) → Bool
says_nothing None None None = true
says_nothing _ _ _ = false

abbrev pub or_own : ℤ → Option ℤ → ℤ
or_own own None = own
or_own own (Some i) = i

-- the part from l to u is not empty, and not within the bounds
abbrev pub leaves : Dim → (l u : ℤ) → Bool
leaves dim l u = not (int_lt u l) && (int_lt l dim.lower || int_lt dim.upper u)

-- a trimmed dimension, of which the part from l to u is taken, with the new lower bound `first`: the part lies within the
-- bounds or is empty, and its upper bound is an INT (Report, 5.3.2.2.b)
abbrev pub trimmed : Dim → (l u first : ℤ) → Taken
trimmed dim l u first =
    if leaves dim l u then Err fault.Bounds
    else (if not (is_int (first +ℤ (u -ℤ l))) then Err fault.Bounds
    else Ok (if int_lt u l then 0 else behind dim l, Some (record { lower = first; upper = first +ℤ (u -ℤ l); stride = dim.stride })))

-- a subscript takes one element; a trimmer without bounds the whole dimension as it is
abbrev pub taken : Dim → Trim → Taken
taken dim (At i) = if is_outside dim i then Err fault.Bounds else Ok (behind dim i, None)
taken dim (Part lower upper at) =
    if says_nothing lower upper at then Ok (0, Some dim) else trimmed dim (or_own dim.lower lower) (or_own dim.upper upper) (or_own (pos 1) at)

-- what the parts of a row are: how far behind its first element they begin, and the dimensions that stay
abbrev pub Seen : Type 0
Seen = Result (ℕ × List Dim) FaultKind

abbrev pub seen_on : Taken → Seen → Seen
seen_on (Ok part) (Ok seen) = Ok (part.0 + seen.0, option_to_list part.1 ++ seen.1)
seen_on (Ok part) (Err kind) = Err kind
seen_on (Err kind) seen = Err kind

-- one subscript or trimmer for each dimension, from the first on; another number of them meets Kind
abbrev pub seen_from : List Dim → List Trim → Seen
seen_from [] [] = Ok (0, [])
seen_from (dim ∷ dims) (trim ∷ trims) = seen_on (taken dim trim) (seen_from dims trims)
seen_from _ _ = Err fault.Kind

-- a part that would begin above the cells that there may be is none of a row that was made (own)
abbrev pub seen_as : (base : ℕ) → Seen → Result Descriptor FaultKind
seen_as base (Ok seen) = if nat_lt most_cells (base + seen.0) then Err fault.Cells else Ok (record { base = base + seen.0; dims = seen.1 })
seen_as base (Err kind) = Err kind

-- the part of a row in the store
unfoldable pub view : Descriptor → List Trim → Result Descriptor FaultKind
view d trims = seen_as d.base (seen_from d.dims trims)

abbrev pub first_of : Result Descriptor FaultKind → Result ℕ FaultKind
first_of (Ok d) = Ok d.base
first_of (Err kind) = Err kind

-- the first cell of an element
unfoldable pub element : Descriptor → List ℤ → Result ℕ FaultKind
element d at = first_of (view d (map (λ i. At i) at))

-- ---- all elements

-- this list for each of so many numbers from 0 on, one behind the other
abbrev pub for_each : {A : Type 0} → (from count : ℕ) → (ℕ → List A) → List A
for_each from zero f = []
for_each from (suc n) f = f from ++ for_each (suc from) n f

-- the first cells of the elements of a row, the last subscript running fastest
abbrev pub element_cells : List Dim → (base : ℕ) → List ℕ
element_cells [] base = base ∷ []
element_cells (dim ∷ dims) base = for_each 0 (between dim.lower dim.upper) (λ k. element_cells dims (base + k * dim.stride))

-- how far behind the first element the last one begins
abbrev pub last_offset : List Dim → ℕ
last_offset [] = 0
last_offset (dim ∷ dims) = (between dim.lower dim.upper - 1) * dim.stride + last_offset dims

-- whether a row has more elements than there may be cells, or elements above those: no row that was made has
abbrev pub is_beyond : Descriptor → (width : ℕ) → Bool
is_beyond d width =
    nat_lt most_cells (elements_of (bounds_of d.dims))
    || (nat_lt 0 (elements_of (bounds_of d.dims)) && nat_lt most_cells (d.base + last_offset d.dims + width))

-- the first cells of the elements, each of which takes so many cells; of no row that was made the fault Cells (own)
unfoldable pub cells_seen : Descriptor → (width : ℕ) → Result (List ℕ) FaultKind
cells_seen d width = if is_beyond d width then Err fault.Cells else Ok (element_cells d.dims d.base)

-- the row with these bounds whose elements, of so many cells each, begin at a cell
unfoldable pub new_row : (base width : ℕ) → (bounds : List (ℤ × ℤ)) → Result Descriptor FaultKind
new_row base width bounds = if nat_lt most_cells (base + width * elements_of bounds) then Err fault.Cells else Ok (record { base = base; dims = dims_of width bounds })

-- ---- rows as values

abbrev pub parts_in : Contents → List Content
parts_in no_parts = []
parts_in (v and_part vs) = v ∷ parts_in vs

abbrev pub with_part : Option Content → Option (List Content) → Option (List Content)
with_part (Some v) (Some rest) = Some (v ∷ rest)
with_part _ _ = None

-- the parts at these places
abbrev pub parts_at : List Content → List ℕ → Option (List Content)
parts_at vs [] = Some []
parts_at vs (k ∷ ks) = with_part (slice_get vs k) (parts_at vs ks)

-- a row of dimensions that stay; where none stays its only element
abbrev pub part_seen : List Dim → Option (List Content) → Result Content FaultKind
part_seen [] (Some (v ∷ [])) = Ok v
part_seen (dim ∷ dims) (Some parts) = Ok (row (bounds_of (dim ∷ dims)) (contents_of parts))
part_seen _ _ = Err fault.Kind

abbrev pub parts_seen : List Content → List Dim → Result (List ℕ) FaultKind → Result Content FaultKind
parts_seen vs dims (Ok cells) = part_seen dims (parts_at vs cells)
parts_seen vs dims (Err kind) = Err kind

abbrev pub part_by : List Content → Result Descriptor FaultKind → Result Content FaultKind
part_by vs (Ok d) = parts_seen vs d.dims (cells_seen d 1)
part_by vs (Err kind) = Err kind

-- whether a row has as many parts as its bounds say
abbrev pub is_filled : (bounds : List (ℤ × ℤ)) → (count : ℕ) → Bool
is_filled bounds count = nat_eq (elements_of bounds) count

-- An element or a part of a row: as if its parts lay in cells from 0 on. A value that is no row, with more parts or with
-- fewer than its bounds say, meets Kind.
abbrev pub part_in : (bounds : List (ℤ × ℤ)) → List Content → List Trim → Result Descriptor FaultKind → Result Content FaultKind
part_in bounds vs trims (Ok d) = part_by vs (view d trims)
part_in bounds vs trims (Err kind) = Err kind

unfoldable pub part_of : (bounds : List (ℤ × ℤ)) → List Content → List Trim → Result Content FaultKind
part_of bounds vs trims = if is_filled bounds (length vs) then part_in bounds vs trims (new_row 0 1 bounds) else Err fault.Kind
