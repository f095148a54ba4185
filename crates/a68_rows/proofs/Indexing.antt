-- Elements that subscripts tell.
use Rattle.std.proofs.Common.{◌≡◌, ◌∙◌, ◌+◌, ℕ, ℤ, Bool, true, false, List, [], ◌∷◌, ◌++◌, length, map, nat_eq, nat_lt, refl, sym, ap}
use Rattle.std.proofs.lemmas.Bool.{false≢true}
use Rattle.std.specs.List.{list_all}
use Rattle.std.specs.Prelude.{Ok, Err, None, if◌then◌else◌}
use Rattle.std.specs.declared.result.Result.{Result}
use Rattle.a68_acts.specs.Rowing.{names_part, names_row}
use Rattle.a68_acts.specs.declared.operation.Doing.{Doing}
use Rattle.a68_acts.specs.declared.operation.Doing.TheVariants.{Yields as yields, Meets as meets}
use Rattle.a68_layout.specs.Views.{Seen, behind, element, first_of, is_outside, seen_as, seen_from, seen_on, view}
use Rattle.a68_layout.specs.Widths.{most_cells}
use Rattle.a68_layout.specs.declared.types.Trim.{Trim}
use Rattle.a68_layout.specs.declared.types.Trim.TheVariants.{At, Part}
use Rattle.a68_rows.specs.Subscripts.{is_subscript, subscript}
use Rattle.a68_values.specs.Content.{plain}
use Rattle.a68_values.specs.declared.act.FaultKind.{FaultKind}
use Rattle.a68_values.specs.declared.act.FaultKind.TheVariants as fault
use Rattle.a68_values.specs.declared.held.Descriptor.{Descriptor}
use Rattle.a68_values.specs.declared.held.Dim.{Dim}
use Rattle.a68_values.specs.declared.plain.Plain.TheVariants as value

abbrev dims_left : Seen → List Dim
dims_left (Ok seen) = seen.1
dims_left (Err kind) = []

-- where there are only subscripts no dimension stays
none_stays : (dims : List Dim) (at : List ℤ) → dims_left (seen_from dims (map (λ i. At i) at)) ≡ []
none_stays [] [] = refl
none_stays [] (i ∷ is) = refl
none_stays (dim ∷ dims) [] = refl
none_stays (dim ∷ dims) (i ∷ is) = on (is_outside dim i) (seen_from dims (map (λ i. At i) is)) (none_stays dims is)
  where
    on : (out : Bool) (seen : Seen) → dims_left seen ≡ [] → dims_left (seen_on (if out then Err fault.Bounds else Ok (behind dim i, None)) seen) ≡ []
    on true seen none = refl
    on false (Ok seen) none = none
    on false (Err kind) none = refl

-- the name of a cell, or the fault
abbrev pub told : (scope : ℕ) → Result ℕ FaultKind → Doing
told scope (Ok cell) = yields (plain (value.Name (record { cell = cell; scope = scope })))
told scope (Err kind) = meets kind

named : (scope base : ℕ) (seen : Seen) → dims_left seen ≡ [] → names_part scope (seen_as base seen) ≡ told scope (first_of (seen_as base seen))
named scope base (Err kind) none = refl
named scope base (Ok seen) none = by (nat_lt most_cells (base + seen.0))
  where
    by : (above : Bool) → names_part scope (if above then Err fault.Cells else Ok (record { base = base + seen.0; dims = seen.1 }))
        ≡ told scope (first_of (if above then Err fault.Cells else Ok (record { base = base + seen.0; dims = seen.1 })))
    by true = refl
    by false = ap (λ dims. if nat_eq (length dims) 0 then yields (plain (value.Name (record { cell = base + seen.0; scope = scope }))) else names_row scope (record { base = base + seen.0; dims = seen.1 })) none

-- the name of an element is that of its first cell
pub named_element : (scope : ℕ) (row : Descriptor) (at : List ℤ) → names_part scope (view row (map (λ i. At i) at)) ≡ told scope (element row at)
unfolding element view
named_element scope row at = named scope row.base (seen_from row.dims (map (λ i. At i) at)) (none_stays row.dims at)

-- ---- trims that are subscripts

-- they are told by their integers
pub told_by_ints : (trims : List Trim) → list_all is_subscript trims ≡ true → map (λ i. At i) (map subscript trims) ≡ trims
told_by_ints [] all = refl
told_by_ints (At i ∷ ts) all = ap (λ rest. At i ∷ rest) (told_by_ints ts all)
told_by_ints (Part lower upper at ∷ ts) all = absurd (false≢true all)
