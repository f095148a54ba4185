-- Operations on rows and on the names of rows.
use Rattle.std.specs.List.{list_all, list_any}
use Rattle.std.specs.Option.{is_some, option_and_then, option_map_or}
use Rattle.std.specs.Prelude.{ℕ, suc, ℤ, pos, ◌+◌, Bool, true, false, not, ◌||◌, List, [], ◌∷◌, ◌++◌, length, map, replicate, None, Some, Ok, Err, slice_get, nat_eq, if◌then◌else◌}
use Rattle.std.specs.declared.option.Option.{Option}
use Rattle.std.specs.declared.result.Result.{Result}
use Rattle.a68_layout.specs.Views.{bounds_of, cells_seen, parts_in, part_of}
use Rattle.a68_layout.specs.Widths.{cells_of}
use Rattle.a68_layout.specs.declared.types.TrimForm.{TrimForm}
use Rattle.a68_layout.specs.declared.types.TrimForm.TheVariants as form
use Rattle.a68_layout.specs.declared.types.Trim.{Trim}
use Rattle.a68_layout.specs.declared.types.Trim.TheVariants as trim
use Rattle.a68_modes.specs.declared.shape.Shape.{Shape}
use Rattle.a68_modes.specs.declared.shape.Shape.TheVariants as shape
use Rattle.a68_ops.specs.Printed.{places}
use Rattle.a68_ops.specs.Texts.{text_of}
use Rattle.a68_ops.specs.Yields.{Yield, is_unset}
use Rattle.a68_values.specs.Content.{Content, plain, row, is_row, contents_of}
use Rattle.a68_values.specs.declared.act.FaultKind.{FaultKind}
use Rattle.a68_values.specs.declared.act.FaultKind.TheVariants as fault
use Rattle.a68_values.specs.declared.held.Descriptor.{Descriptor}
use Rattle.a68_values.specs.declared.held.Dim.{Dim}
use Rattle.a68_values.specs.declared.held.Held.TheVariants as held
use Rattle.a68_values.specs.declared.plain.Name.{Name}
use Rattle.a68_values.specs.declared.plain.Plain.TheVariants as value
use Rattle.a68_acts.specs.Fetching.{fetch_elements}
use Rattle.a68_acts.specs.Steps.{goes, same_bounds}
use Rattle.a68_acts.specs.declared.operation.Doing.{Doing}
use Rattle.a68_acts.specs.declared.operation.Doing.TheVariants.{Yields as yields, Asks as asks, Meets as meets}
use Rattle.a68_acts.specs.declared.operation.Next.TheVariants as next
use Rattle.a68_acts.specs.declared.step.Step.TheVariants as step
use Rattle.a68_acts.specs.declared.want.Want.TheVariants as want

-- what an operator does that yields at once
abbrev pub yielding : Yield → Doing
yielding (Ok v) = yields v
yielding (Err kind) = meets kind

abbrev pub is_integer : Content → Bool
is_integer (plain (value.Int i)) = true
is_integer v = false

-- an INT or a LONG INT
abbrev pub is_number : Content → Bool
is_number (plain (value.Int i)) = true
is_number (plain (value.Long l)) = true
is_number v = false

abbrev pub integer : Content → ℤ
integer (plain (value.Int i)) = i
integer v = pos 0

-- the integers that some values are; an unset one comes before one of another kind
abbrev pub ints_of : List Content → Result (List ℤ) FaultKind
ints_of vs = if list_any is_unset vs then Err fault.Unset else (if list_all is_integer vs then Ok (map integer vs) else Err fault.Kind)

-- the name of a new descriptor
abbrev pub names_row : (scope : ℕ) → Descriptor → Doing
names_row scope d = asks (want.Make (record { cells = held.Rows d ∷ []; shifted = false })) (next.Made scope)

-- ---- slices (Report, 5.3.2.2)

abbrev pub take_if : Bool → List ℤ → Option ℤ × List ℤ
take_if true (i ∷ is) = (Some i, is)
take_if _ is = (None, is)

-- the subscripts and trimmers that are written so, with these values
abbrev pub trim_of : (lower upper at : Bool) → List ℤ → Trim
trim_of lower upper at is =
    trim.Part (take_if lower is).0 (take_if upper (take_if lower is).1).0 (take_if at (take_if upper (take_if lower is).1).1).0

abbrev pub behind_trim : (lower upper at : Bool) → List ℤ → List ℤ
behind_trim lower upper at is = (take_if at (take_if upper (take_if lower is).1).1).1

abbrev pub trims_of : List TrimForm → List ℤ → List Trim
trims_of [] is = []
trims_of (form.Subscript ∷ forms) (i ∷ is) = trim.At i ∷ trims_of forms is
trims_of (form.Subscript ∷ forms) [] = []
trims_of (form.Trimmer lower upper at ∷ forms) is = trim_of lower upper at is ∷ trims_of forms (behind_trim lower upper at is)

abbrev pub sliced_by : Content → List Trim → Doing
sliced_by (row bounds vs) trims = yielding (part_of bounds (parts_in vs) trims)
sliced_by (plain value.Nil) trims = meets fault.Nil
sliced_by (plain (value.Name n)) trims = asks (want.Fetch n.cell) (next.Sliced trims n.scope)
sliced_by v trims = meets fault.Kind

abbrev pub sliced_set : List TrimForm → Content → Result (List ℤ) FaultKind → Doing
sliced_set forms v (Ok is) = sliced_by v (trims_of forms is)
sliced_set forms v (Err kind) = meets kind

-- an unset primary or index comes first, then one of another kind, then NIL
abbrev pub sliced_with : List TrimForm → Content → Result (List ℤ) FaultKind → Doing
sliced_with forms (plain value.Unset) is = meets fault.Unset
sliced_with forms v is = sliced_set forms v is

abbrev pub sliced : List TrimForm → List Content → Doing
sliced forms (v ∷ vs) = sliced_with forms v (ints_of vs)
sliced forms [] = meets fault.Kind

-- of the row that a name has an element is the name of its cells, a part that of a new descriptor (own)
abbrev pub names_part : (scope : ℕ) → Result Descriptor FaultKind → Doing
names_part scope (Ok d) = if nat_eq (length d.dims) 0 then yields (plain (value.Name (record { cell = d.base; scope = scope }))) else names_row scope d
names_part scope (Err kind) = meets kind

-- ---- displays and rowing

-- a row of values: of one dimension, or of values that are rows with the same bounds, which are the other dimensions
-- (Report, 3.3.2)
abbrev pub joined : List Content → List Content
joined [] = []
joined (row bounds vs ∷ rows) = parts_in vs ++ joined rows
joined (v ∷ rows) = joined rows

abbrev pub has_bounds : List (ℤ × ℤ) → Content → Bool
has_bounds bounds (row others vs) = same_bounds bounds others
has_bounds bounds v = false

-- a value of another kind comes before bounds that differ
abbrev pub bounds_with : (bounds : List (ℤ × ℤ)) → List Content → Result (List (ℤ × ℤ)) FaultKind
bounds_with bounds vs =
    if not (list_all is_row vs) then Err fault.Kind
    else (if list_all (has_bounds bounds) vs then Ok ((pos 1, pos (length vs + 1)) ∷ bounds) else Err fault.Bounds)

abbrev pub bounds_of_rows : List Content → Result (List (ℤ × ℤ)) FaultKind
bounds_of_rows [] = Err fault.Kind
bounds_of_rows (row bounds ws ∷ vs) = bounds_with bounds vs
bounds_of_rows (v ∷ vs) = Err fault.Kind

abbrev pub row_of_rows : List Content → Result (List (ℤ × ℤ)) FaultKind → Doing
row_of_rows vs (Ok bounds) = yields (row bounds (contents_of (joined vs)))
row_of_rows vs (Err kind) = meets kind

abbrev pub displayed_rows : List Content → Doing
displayed_rows vs = row_of_rows vs (bounds_of_rows vs)

-- a row of one dimension
abbrev pub row_of : List Content → Doing
row_of vs = yields (row ((pos 1, pos (length vs)) ∷ []) (contents_of vs))

-- how many dimensions the rows of a mode have
abbrev pub dims_of_shape : Shape → Option ℕ
dims_of_shape (shape.Rows dims flex m) = Some dims
dims_of_shape s = None

abbrev pub displayed_in : (dims : Option ℕ) → List Content → Doing
displayed_in None vs = meets fault.Kind
displayed_in (Some dims) vs = if nat_eq dims 1 then row_of vs else displayed_rows vs

abbrev pub displayed : Shape → List Content → Doing
displayed s vs = displayed_in (dims_of_shape s) vs

-- bounds of 1:0 in so many dimensions (own)
abbrev pub no_bounds : ℕ → List (ℤ × ℤ)
no_bounds n = replicate n (pos 1, pos 0)

-- a row without elements
abbrev pub vacuous : Shape → Doing
vacuous s = option_map_or (λ dims. yields (row (no_bounds dims) (contents_of []))) (dims_of_shape s) (meets fault.Kind)

-- a row of one element, or of one more dimension 1:1 in front (Report, 6.6)
abbrev pub widened_row : Content → Doing
widened_row (row bounds vs) = yields (row ((pos 1, pos 1) ∷ bounds) vs)
widened_row v = meets fault.Kind

abbrev pub rowed_as : (dims : Option ℕ) → Content → Doing
rowed_as None v = meets fault.Kind
rowed_as (Some dims) v = if nat_eq dims 1 then row_of (v ∷ []) else widened_row v

abbrev pub rowed : Shape → Content → Doing
rowed s v = rowed_as (dims_of_shape s) v

-- the dimension 1:1, of one element
abbrev pub one_dimension : Dim
one_dimension = record { lower = pos 1; upper = pos 1; stride = 0 }

-- the name of a row of the one element to which a name refers
abbrev pub names_one : Name → Doing
names_one n = names_row n.scope (record { base = n.cell; dims = one_dimension ∷ [] })

-- a name made that of a row of so many dimensions
abbrev pub rowed_in : (dims : Option ℕ) → Name → Doing
rowed_in None n = meets fault.Kind
rowed_in (Some dims) n = if nat_eq dims 1 then names_one n else asks (want.Fetch n.cell) (next.Rowed n.scope)

-- the name of a row of one element, or of one more dimension; NIL stays
abbrev pub rowed_name : Shape → Content → Doing
rowed_name s (plain value.Unset) = meets fault.Unset
rowed_name s (plain value.Nil) = yields (plain value.Nil)
rowed_name s (plain (value.Name n)) = rowed_in (dims_of_shape s) n
rowed_name s v = meets fault.Kind

-- a dimension 1:1 in front of those of a row
abbrev pub with_dimension : Descriptor → Descriptor
with_dimension d = record { base = d.base; dims = one_dimension ∷ d.dims }

abbrev pub truths : List ℕ → List Content
truths letters = map (λ letter. plain (value.Bool (nat_eq letter 84))) letters

-- BITS as a row of BOOL (Report, 6.5)
abbrev pub widened : Content → Doing
widened (plain value.Unset) = meets fault.Unset
widened (plain (value.Bits b)) = yields (row ((pos 1, pos 64) ∷ []) (contents_of (truths (places b))))
widened v = meets fault.Kind

-- ---- bounds (Report, 10.2.1)

-- the place of a dimension that is counted from 1
abbrev pub place_of : (dimension : ℤ) → Option ℕ
place_of (pos (suc n)) = Some n
place_of i = None

abbrev pub bound : (upper : Bool) → ℤ × ℤ → ℤ
bound upper b = if upper then b.1 else b.0

-- a bound of a row, in a dimension that is counted from 1
abbrev pub bound_of : (upper : Bool) → List (ℤ × ℤ) → (dimension : ℤ) → Yield
bound_of upper bounds i = option_map_or (λ b. Ok (plain (value.Int (bound upper b)))) (option_and_then (slice_get bounds) (place_of i)) (Err fault.Bounds)

-- of a name its descriptor alone is looked at; of a row value no part may be unset
abbrev pub bounded : (upper : Bool) → (dimension : ℤ) → Content → Doing
bounded upper i (plain value.Nil) = meets fault.Nil
bounded upper i (plain (value.Name n)) = asks (want.Fetch n.cell) (next.Bound upper i)
bounded upper i (row bounds vs) = if is_unset (row bounds vs) then meets fault.Unset else yielding (bound_of upper bounds i)
bounded upper i v = if is_unset v then meets fault.Unset else meets fault.Kind

abbrev pub bounded_by : (upper : Bool) → (dimension v : Content) → Doing
bounded_by upper (plain (value.Int i)) v = bounded upper i v
bounded_by upper w v = if is_unset w || is_unset v then meets fault.Unset else meets fault.Kind

-- ---- texts that grow (Report, 10.2.3.11)

-- an operator that is combined with assignation, on a name and a text; both have been tested for unset parts
abbrev pub extending : (row : ℕ) → (name operand : Content) → Doing
extending r (plain (value.Name n)) w = asks (want.Fetch n.cell) (next.Extend r n w)
extending r (plain value.Nil) w = meets fault.Nil
extending r v w = meets fault.Kind

abbrev pub updating_text : (row : ℕ) → (name operand : Content) → Doing
updating_text r v w =
    if is_unset v || is_unset w then meets fault.Unset else (if is_some (text_of w) then extending r v w else meets fault.Kind)

-- the text that the name has is fetched, and what the operator makes of it is assigned
abbrev pub extended : List Shape → (row : ℕ) → Name → (operand : Content) → (bounds : List (ℤ × ℤ)) → Result (List ℕ) FaultKind → Doing
extended modes r n w bounds (Ok cells) = goes modes (fetch_elements modes 3 cells (step.Row bounds (length cells) ∷ (step.Update r n w ∷ []))) []
extended modes r n w bounds (Err kind) = meets kind

abbrev pub extends : List Shape → (row : ℕ) → Name → (operand : Content) → Descriptor → Doing
extends modes r n w d = extended modes r n w (bounds_of d.dims) (cells_seen d (cells_of modes 3))
