-- No operation asks for a frame.
use Rattle.std.proofs.Common.{ℕ, zero, suc, ℤ, pos, ◌+◌, Bool, true, false, List, [], ◌∷◌, length, take}
use Rattle.std.specs.Prelude.{None, Some, Ok, Err, slice_get, reverse, nat_eq, nat_lt, ◌||◌, if◌then◌else◌}
use Rattle.std.specs.Option.{is_some, option_map_or}
use Rattle.std.specs.declared.option.Option.{Option}
use Rattle.std.specs.declared.result.Result.{Result}
use Rattle.a68_acts.specs.Fetching.{fetch_steps, fetch_elements, assign_steps, assign_elements}
use Rattle.a68_acts.specs.Rowing.{yielding, ints_of, sliced, sliced_by, sliced_set, sliced_with, trims_of, names_part, names_row, bounds_of_rows, row_of, row_of_rows, displayed_in, displayed_rows, dims_of_shape, no_bounds, vacuous, widened_row, rowed_as, names_one, rowed_in, rowed_name, widened, bound_of, bounded, bounded_by, extending, updating_text, extended, extends}
use Rattle.a68_acts.specs.Steps.{silent, last_left, told, makes, updates, replaces, asked, acting, goes, is_beyond, fetches_row, assigns_elements, same_bounds, assigns_new, assigns, replied, stepped}
use Rattle.a68_acts.specs.Operations.{Operation, constant, skip, nil, routine, tag, make, heap, bind, deref, store, apply, same, slice, display, vacuum, compose, select, unite, row_up, row_up_name, widen, drop, print, whole, start, resumed, resumed_by, resumed_with, skipped, skipped_parts, skip_within, routine_of, fetched, fetched_parts, making, made_by, given, given_parts, assigned, composed, part_at, fields_at, fields_of, names_rows, name_behind, named_rows, selects_from_row, selected_from, selected_in, shape_behind, is_update, updating_by, updating, put, is_same, related, printing, print_next, worded, number_in, whole_by, whole_of, leveled, counted, on_sema, applied_to_two, applied_to_one}
use Rattle.a68_acts.specs.declared.operation.Doing.{Doing}
use Rattle.a68_acts.specs.declared.operation.Doing.TheVariants.{Yields, Asks, Meets}
use Rattle.a68_acts.specs.declared.operation.Next.{Next}
use Rattle.a68_acts.specs.declared.operation.Next.TheVariants as next
use Rattle.a68_acts.specs.declared.step.Step.{Step}
use Rattle.a68_acts.specs.declared.step.Step.TheVariants as step
use Rattle.a68_acts.specs.declared.want.Reply.{Reply}
use Rattle.a68_acts.specs.declared.want.Reply.TheVariants as reply
use Rattle.a68_acts.specs.declared.want.Want.{Want}
use Rattle.a68_acts.specs.declared.want.Want.TheVariants as want
use Rattle.a68_layout.specs.Rooms.{planned, planned_for, planned_elements}
use Rattle.a68_layout.specs.Views.{bounds_of, cells_seen, new_row, parts_in, part_of, view}
use Rattle.a68_layout.specs.Widths.{most_cells, cells_of, width_of, width_of_fields}
use Rattle.a68_layout.specs.declared.types.TrimForm.{TrimForm}
use Rattle.a68_layout.specs.declared.types.Plan.{Plan}
use Rattle.a68_layout.specs.declared.types.Trim.{Trim}
use Rattle.a68_modes.specs.Nodes.{shape_at, is_plain, is_void}
use Rattle.a68_modes.specs.declared.shape.Shape.{Shape}
use Rattle.a68_ops.specs.Applied.{applied, updated}
use Rattle.a68_ops.specs.Printed.{item_text, member, whole as whole_number}
use Rattle.a68_ops.specs.Texts.{text_of}
use Rattle.a68_ops.specs.Yields.{Yield, is_unset}
use Rattle.a68_values.specs.Content.{Content, void, plain, structure, row, contents_of, scope_of}
use Rattle.a68_values.specs.declared.act.FaultKind.{FaultKind}
use Rattle.a68_values.specs.declared.act.FaultKind.TheVariants as fault
use Rattle.a68_values.specs.declared.chain.Environ.{Environ}
use Rattle.a68_values.specs.declared.held.Descriptor.{Descriptor}
use Rattle.a68_values.specs.declared.held.Held.TheVariants as held
use Rattle.a68_values.specs.declared.plain.Name.{Name}
use Rattle.a68_values.specs.declared.plain.Plain.{Plain}
use Rattle.a68_values.specs.declared.plain.Plain.TheVariants as value
use Rattle.a68_world.specs.Scopes.{DoingBelow, AskedBelow}

choose-below : (n : ℕ) (b : Bool) (x y : Doing) → DoingBelow n x → DoingBelow n y → DoingBelow n (if b then x else y)
choose-below n true x y p q = p
choose-below n false x y p q = q

option-below : {T : Type 0} (n : ℕ) (f : T → Doing) (o : Option T) (d : Doing) → ((x : T) → DoingBelow n (f x)) → DoingBelow n d → DoingBelow n (option_map_or f o d)
option-below n f None d p q = q
option-below n f (Some x) d p q = p x

makes-below : (n : ℕ) (o : Result Plan FaultKind) (steps : List Step) (left : List Content) → DoingBelow n (told (makes o) steps left)
makes-below n (Ok plan) steps left = tt
makes-below n (Err why) steps left = tt

updates-below : (n : ℕ) (modes : List Shape) (m : Name) (y : Yield) (behind : List Step) (left : List Content) → DoingBelow n (updates modes m y behind left)
updates-below n modes m (Ok (row bounds vs)) behind left =
    makes-below n (planned_elements modes 3 vs) (step.AssignRow 3 true m.cell bounds (parts_in vs) ∷ (step.Leave (plain (value.Name m)) ∷ behind)) left
updates-below n modes m (Ok v) behind left = tt
updates-below n modes m (Err why) behind left = tt

replaces-below : (n : ℕ) (modes : List Shape) (of : ℕ) (flex : Bool) (cell : ℕ) (vs : List Content) (steps : List Step) (left : List Content) → DoingBelow n (told (replaces modes of flex cell vs) steps left)
replaces-below n modes of false cell vs steps left = tt
replaces-below n modes of true cell vs steps left = makes-below n (planned_elements modes of (contents_of vs)) steps left

asked-below : (n : ℕ) (modes : List Shape) (s : Step) (behind : List Step) (left : List Content) → DoingBelow n (asked modes s behind left)
asked-below n modes (step.AssignUnion cell m v) behind left = makes-below n (planned_for modes m v) (step.AssignUnion cell m v ∷ behind) left
asked-below n modes (step.AssignRow of flex cell bounds vs) behind left = replaces-below n modes of flex cell vs (step.AssignRow of flex cell bounds vs ∷ behind) left
asked-below n modes (step.Update r m other) behind (v ∷ left) = updates-below n modes m (updated r v other) behind left
asked-below n modes (step.Fetch cell) behind left = tt
asked-below n modes (step.FetchUnion cell) behind left = tt
asked-below n modes (step.FetchRow of cell) behind left = tt
asked-below n modes (step.Assign cell h) behind left = tt
asked-below n modes _ behind left = tt

last_left-below : (n : ℕ) (left : List Content) → DoingBelow n (last_left left)
last_left-below n [] = tt
last_left-below n (v ∷ []) = tt
last_left-below n (v ∷ (w ∷ left)) = tt

acting-below : (n : ℕ) (modes : List Shape) (steps : List Step) (left : List Content) → DoingBelow n (acting modes steps left)
acting-below n modes [] left = last_left-below n left
acting-below n modes (s ∷ behind) left = asked-below n modes s behind left

goes-below : (n : ℕ) (modes : List Shape) (steps : List Step) (left : List Content) → DoingBelow n (goes modes steps left)
unfolding goes
goes-below n modes steps left = acting-below n modes (silent steps left).0 (silent steps left).1

beyond-below : (n : ℕ) (modes : List Shape) (m cell : ℕ) (x : Doing) → DoingBelow n x → DoingBelow n (if is_beyond modes m cell then Meets fault.Cells else x)
beyond-below n modes m cell x p = choose-below n (is_beyond modes m cell) (Meets fault.Cells) x tt p

fetches_row-below : (n : ℕ) (modes : List Shape) (of : ℕ) (bounds : List (ℤ × ℤ)) (o : Result (List ℕ) FaultKind) (behind : List Step) (left : List Content) → DoingBelow n (fetches_row modes of bounds o behind left)
fetches_row-below n modes of bounds (Ok cells) behind left = goes-below n modes (fetch_elements modes of cells (step.Row bounds (length cells) ∷ behind)) left
fetches_row-below n modes of bounds (Err why) behind left = tt

assigns_elements-below : (n : ℕ) (modes : List Shape) (of : ℕ) (o : Result (List ℕ) FaultKind) (vs : List Content) (behind : List Step) (left : List Content) → DoingBelow n (assigns_elements modes of o vs behind left)
assigns_elements-below n modes of (Ok cells) vs behind left =
    choose-below n (nat_eq (length cells) (length vs)) _ (Meets fault.Kind) (goes-below n modes (assign_elements modes of cells vs behind) left) tt
assigns_elements-below n modes of (Err why) vs behind left = tt

assigns_new-below : (n : ℕ) (modes : List Shape) (of cell : ℕ) (o : Result Descriptor FaultKind) (vs : List Content) (behind : List Step) (left : List Content) → DoingBelow n (assigns_new modes of cell o vs behind left)
assigns_new-below n modes of cell (Ok d) vs behind left =
    assigns_elements-below n modes of (cells_seen d (cells_of modes of)) vs (step.Assign cell (held.Rows d) ∷ behind) left
assigns_new-below n modes of cell (Err why) vs behind left = tt

assigns-below : (n : ℕ) (modes : List Shape) (of : ℕ) (flex : Bool) (cell : ℕ) (bounds : List (ℤ × ℤ)) (vs : List Content) (r : Reply) (behind : List Step) (left : List Content) → DoingBelow n (assigns modes of flex cell bounds vs r behind left)
assigns-below n modes of false cell bounds vs (reply.Held (held.Rows d)) behind left =
    choose-below n (same_bounds (bounds_of d.dims) bounds) _ (Meets fault.Bounds) (assigns_elements-below n modes of (cells_seen d (cells_of modes of)) vs behind left) tt
assigns-below n modes of true cell bounds vs (reply.Base base) behind left = assigns_new-below n modes of cell (new_row base (cells_of modes of) bounds) vs behind left
assigns-below n modes of flex cell bounds vs _ behind left = tt

replied-below : (n : ℕ) (modes : List Shape) (s : Step) (r : Reply) (behind : List Step) (left : List Content) → DoingBelow n (replied modes s r behind left)
replied-below n modes (step.Fetch cell) (reply.Held (held.Plain p)) behind left = goes-below n modes behind (plain p ∷ left)
replied-below n modes (step.FetchUnion cell) (reply.Held (held.Plain value.Unset)) behind left = goes-below n modes behind (plain value.Unset ∷ left)
replied-below n modes (step.FetchUnion cell) (reply.Held (held.Member m base)) behind left =
    beyond-below n modes m base _ (goes-below n modes (fetch_steps modes m base (step.Unite m ∷ behind)) left)
replied-below n modes step.Assigned reply.Go behind left = goes-below n modes behind left
replied-below n modes (step.AssignUnion cell m v) (reply.Base base) behind left =
    beyond-below n modes m base _ (goes-below n modes (assign_steps modes m base v (step.Assign cell (held.Member m base) ∷ behind)) left)
replied-below n modes (step.FetchRow of cell) (reply.Held (held.Rows d)) behind left =
    fetches_row-below n modes of (bounds_of d.dims) (cells_seen d (cells_of modes of)) behind left
replied-below n modes (step.AssignRow of flex cell bounds vs) r behind left = assigns-below n modes of flex cell bounds vs r behind left
replied-below n modes _ _ behind left = tt

stepped-below : (n : ℕ) (modes : List Shape) (steps : List Step) (r : Reply) (left : List Content) → DoingBelow n (stepped modes steps r left)
unfolding stepped
stepped-below n modes [] r left = tt
stepped-below n modes (s ∷ behind) r left = replied-below n modes s r behind left

skipped_parts-below : (n : ℕ) (modes : List Shape) (m : ℕ) → DoingBelow n (skipped_parts modes m)
skipped_parts-below n modes m = beyond-below n modes m 0 (Yields (skip_within (length modes) modes m)) tt

skipped-below : (n : ℕ) (modes : List Shape) (m : ℕ) → DoingBelow n (skipped modes m)
skipped-below n modes m =
    choose-below n (is_void (shape_at modes m)) _ _ tt
    (choose-below n (is_plain (shape_at modes m)) (Yields (plain value.Unset)) (skipped_parts modes m) tt (skipped_parts-below n modes m))

fetched_parts-below : (n : ℕ) (modes : List Shape) (m : ℕ) (x : Name) → DoingBelow n (fetched_parts modes m x)
fetched_parts-below n modes m x = beyond-below n modes m x.cell _ (goes-below n modes (fetch_steps modes m x.cell []) [])

fetched-below : (n : ℕ) (modes : List Shape) (m : ℕ) (v : Content) → DoingBelow n (fetched modes m v)
fetched-below n modes m (plain (value.Name x)) =
    choose-below n (is_plain (shape_at modes m)) (Asks (want.Fetch x.cell) next.Held) (fetched_parts modes m x) tt (fetched_parts-below n modes m x)
fetched-below n modes m _ = tt

given-below : (n : ℕ) (m : Name) (v : Content) → DoingBelow n (given m v)
given-below n m (plain p) =
    choose-below n (nat_lt m.scope (scope_of (plain p))) (Meets fault.Scope) (Asks (want.Assign m.cell (held.Plain p)) (next.Name m)) tt tt
given-below n m _ = tt

given_parts-below : (n : ℕ) (modes : List Shape) (m : ℕ) (x : Name) (v : Content) → DoingBelow n (given_parts modes m x v)
given_parts-below n modes m x v =
    choose-below n (nat_lt x.scope (scope_of v)) (Meets fault.Scope) _ tt
    (beyond-below n modes m x.cell _ (goes-below n modes (assign_steps modes m x.cell v (step.Leave (plain (value.Name x)) ∷ [])) []))

assigned-below : (n : ℕ) (modes : List Shape) (m : ℕ) (name v : Content) → DoingBelow n (assigned modes m name v)
assigned-below n modes m (plain (value.Name x)) v =
    choose-below n (is_plain (shape_at modes m)) (given x v) (given_parts modes m x v) (given-below n x v) (given_parts-below n modes m x v)
assigned-below n modes m _ v = tt

composed-below : (n k : ℕ) (vs : List Content) → DoingBelow n (composed k vs)
composed-below n k vs = choose-below n (nat_eq (length vs) k) (Yields (structure (contents_of vs))) (Meets fault.Kind) tt tt

selected_from-below : (n : ℕ) (rows : Bool) (offset k : ℕ) (v : Content) → DoingBelow n (selected_from rows offset k v)
selected_from-below n rows offset k (plain (value.Name x)) =
    choose-below n rows (selects_from_row offset x) (name_behind offset x) (choose-below n (nat_lt most_cells offset) (Meets fault.Cells) _ tt tt)
    (choose-below n (nat_lt most_cells (x.cell + offset)) (Meets fault.Cells) _ tt tt)
selected_from-below n rows offset k (structure vs) = option-below n (λ v. Yields v) (part_at k vs) (Meets fault.Kind) (λ v. tt) tt
selected_from-below n rows offset k (row bounds vs) = option-below n (λ ws. Yields (row bounds ws)) (fields_at k vs) (Meets fault.Kind) (λ ws. tt) tt
selected_from-below n rows offset k _ = tt

selected_in-below : (n : ℕ) (modes : List Shape) (rows : Bool) (k : ℕ) (v : Content) (o : Option (List (ℕ × ℕ))) → DoingBelow n (selected_in modes rows k v o)
selected_in-below n modes rows k v None = tt
selected_in-below n modes rows k v (Some fields) =
    choose-below n (nat_lt k (length fields)) (selected_from rows (width_of_fields (width_of modes) (take k fields)) k v) (Meets fault.Kind)
    (selected_from-below n rows (width_of_fields (width_of modes) (take k fields)) k v) tt

yielding-below : (n : ℕ) (y : Yield) → DoingBelow n (yielding y)
yielding-below n (Ok v) = tt
yielding-below n (Err why) = tt

updating_by-below : (n row : ℕ) (name : Content) (k : Plain) → DoingBelow n (updating_by row name k)
updating_by-below n r (plain (value.Name m)) k = tt
updating_by-below n r (plain value.Nil) k = tt
updating_by-below n r v k = choose-below n (is_unset v) (Meets fault.Unset) (Meets fault.Kind) tt tt

extending-below : (n row : ℕ) (name v : Content) → DoingBelow n (extending row name v)
extending-below n r (plain (value.Name m)) w = tt
extending-below n r (plain value.Nil) w = tt
extending-below n r v w = tt

updating_text-below : (n row : ℕ) (name v : Content) → DoingBelow n (updating_text row name v)
updating_text-below n r v w =
    choose-below n (is_unset v || is_unset w) (Meets fault.Unset) _ tt
    (choose-below n (is_some (text_of w)) (extending r v w) (Meets fault.Kind) (extending-below n r v w) tt)

updating-below : (n row : ℕ) (name v : Content) → DoingBelow n (updating row name v)
updating-below n r v (plain (value.Int k)) = updating_by-below n r v (value.Int k)
updating-below n r v (plain (value.Long l)) = updating_by-below n r v (value.Long l)
updating-below n r v w = updating_text-below n r v w

bounded-below : (n : ℕ) (upper : Bool) (i : ℤ) (v : Content) → DoingBelow n (bounded upper i v)
bounded-below n upper i (plain value.Nil) = tt
bounded-below n upper i (plain (value.Name m)) = tt
bounded-below n upper i (row bounds vs) =
    choose-below n (is_unset (row bounds vs)) (Meets fault.Unset) (yielding (bound_of upper bounds i)) tt (yielding-below n (bound_of upper bounds i))
bounded-below n upper i v = choose-below n (is_unset v) (Meets fault.Unset) (Meets fault.Kind) tt tt

bounded_by-below : (n : ℕ) (upper : Bool) (dimension v : Content) → DoingBelow n (bounded_by upper dimension v)
bounded_by-below n upper (plain (value.Int i)) v = bounded-below n upper i v
bounded_by-below n upper w v = choose-below n (is_unset w || is_unset v) (Meets fault.Unset) (Meets fault.Kind) tt tt

leveled-below : (n : ℕ) (v : Content) → DoingBelow n (leveled v)
leveled-below n (plain value.Unset) = tt
leveled-below n (plain (value.Int i)) = tt
leveled-below n (plain (value.Sema cell)) = tt
leveled-below n v = tt

on_sema-below : (n : ℕ) (act : ℕ → Want) (v : Content) → ((cell : ℕ) → AskedBelow n (act cell)) → DoingBelow n (on_sema act v)
on_sema-below n act (plain value.Unset) below = tt
on_sema-below n act (plain (value.Sema cell)) below = below cell
on_sema-below n act v below = tt

applied_to_two-below : (n row : ℕ) (v w : Content) → DoingBelow n (applied_to_two row v w)
applied_to_two-below n r v w =
    choose-below n (is_update r) (updating r v w) _ (updating-below n r v w)
    (choose-below n (nat_eq r 6) (updating r w v) _ (updating-below n r w v)
    (choose-below n (nat_eq r 24) (bounded_by false v w) _ (bounded_by-below n false v w)
    (choose-below n (nat_eq r 25) (bounded_by true v w) (yielding (applied r v w)) (bounded_by-below n true v w) (yielding-below n (applied r v w)))))

applied_to_one-below : (n row : ℕ) (v : Content) → DoingBelow n (applied_to_one row v)
applied_to_one-below n r v =
    choose-below n (nat_eq r 34) (leveled v) _ (leveled-below n v)
    (choose-below n (nat_eq r 35) (on_sema (λ c. want.Up c) v) _ (on_sema-below n (λ c. want.Up c) v (λ c. tt))
    (choose-below n (nat_eq r 36) (on_sema (λ c. want.Down c) v) _ (on_sema-below n (λ c. want.Down c) v (λ c. tt))
    (choose-below n (nat_eq r 37) (bounded false (pos 1) v) _ (bounded-below n false (pos 1) v)
    (choose-below n (nat_eq r 38) (bounded true (pos 1) v) (yielding (applied r void v)) (bounded-below n true (pos 1) v) (yielding-below n (applied r void v))))))

-- ---- rows

sliced_by-below : (n : ℕ) (v : Content) (trims : List Trim) → DoingBelow n (sliced_by v trims)
sliced_by-below n (row bounds vs) trims = yielding-below n (part_of bounds (parts_in vs) trims)
sliced_by-below n (plain value.Nil) trims = tt
sliced_by-below n (plain (value.Name m)) trims = tt
sliced_by-below n v trims = tt

sliced_set-below : (n : ℕ) (forms : List TrimForm) (v : Content) (o : Result (List ℤ) FaultKind) → DoingBelow n (sliced_set forms v o)
sliced_set-below n forms v (Ok is) = sliced_by-below n v (trims_of forms is)
sliced_set-below n forms v (Err why) = tt

sliced_with-below : (n : ℕ) (forms : List TrimForm) (v : Content) (o : Result (List ℤ) FaultKind) → DoingBelow n (sliced_with forms v o)
sliced_with-below n forms (plain value.Unset) o = tt
sliced_with-below n forms v o = sliced_set-below n forms v o

sliced-below : (n : ℕ) (forms : List TrimForm) (vs : List Content) → DoingBelow n (sliced forms vs)
sliced-below n forms [] = tt
sliced-below n forms (v ∷ vs) = sliced_with-below n forms v (ints_of vs)

row_of_rows-below : (n : ℕ) (vs : List Content) (o : Result (List (ℤ × ℤ)) FaultKind) → DoingBelow n (row_of_rows vs o)
row_of_rows-below n vs (Ok bounds) = tt
row_of_rows-below n vs (Err why) = tt

displayed_in-below : (n : ℕ) (dims : Option ℕ) (vs : List Content) → DoingBelow n (displayed_in dims vs)
displayed_in-below n None vs = tt
displayed_in-below n (Some dims) vs = choose-below n (nat_eq dims 1) (row_of vs) (displayed_rows vs) tt (row_of_rows-below n vs (bounds_of_rows vs))

vacuous-below : (n : ℕ) (s : Shape) → DoingBelow n (vacuous s)
vacuous-below n s = option-below n (λ dims. Yields (row (no_bounds dims) (contents_of []))) (dims_of_shape s) (Meets fault.Kind) (λ dims. tt) tt

widened_row-below : (n : ℕ) (v : Content) → DoingBelow n (widened_row v)
widened_row-below n (row bounds vs) = tt
widened_row-below n v = tt

rowed_as-below : (n : ℕ) (dims : Option ℕ) (v : Content) → DoingBelow n (rowed_as dims v)
rowed_as-below n None v = tt
rowed_as-below n (Some dims) v = choose-below n (nat_eq dims 1) (row_of (v ∷ [])) (widened_row v) tt (widened_row-below n v)

rowed_in-below : (n : ℕ) (dims : Option ℕ) (m : Name) → DoingBelow n (rowed_in dims m)
rowed_in-below n None m = tt
rowed_in-below n (Some dims) m = choose-below n (nat_eq dims 1) (names_one m) _ tt tt

rowed_name-below : (n : ℕ) (s : Shape) (v : Content) → DoingBelow n (rowed_name s v)
rowed_name-below n s (plain value.Unset) = tt
rowed_name-below n s (plain value.Nil) = tt
rowed_name-below n s (plain (value.Name m)) = rowed_in-below n (dims_of_shape s) m
rowed_name-below n s v = tt

widened-below : (n : ℕ) (v : Content) → DoingBelow n (widened v)
widened-below n (plain value.Unset) = tt
widened-below n (plain (value.Bits b)) = tt
widened-below n v = tt

names_part-below : (n scope : ℕ) (o : Result Descriptor FaultKind) → DoingBelow n (names_part scope o)
names_part-below n scope (Ok d) = choose-below n (nat_eq (length d.dims) 0) _ (names_row scope d) tt tt
names_part-below n scope (Err why) = tt

named_rows-below : (n scope offset : ℕ) (d : Descriptor) → DoingBelow n (named_rows scope offset d)
named_rows-below n scope offset d = choose-below n (nat_lt most_cells (d.base + offset)) (Meets fault.Cells) _ tt tt

extended-below : (n : ℕ) (modes : List Shape) (r : ℕ) (m : Name) (w : Content) (bounds : List (ℤ × ℤ)) (o : Result (List ℕ) FaultKind) → DoingBelow n (extended modes r m w bounds o)
extended-below n modes r m w bounds (Ok cells) = goes-below n modes (fetch_elements modes 3 cells (step.Row bounds (length cells) ∷ (step.Update r m w ∷ []))) []
extended-below n modes r m w bounds (Err why) = tt

extends-below : (n : ℕ) (modes : List Shape) (r : ℕ) (m : Name) (w : Content) (d : Descriptor) → DoingBelow n (extends modes r m w d)
extends-below n modes r m w d = extended-below n modes r m w (bounds_of d.dims) (cells_seen d (cells_of modes 3))

put-below : (n : ℕ) (m : Name) (y : Yield) → DoingBelow n (put m y)
put-below n m (Ok (plain p)) = tt
put-below n m (Ok v) = tt
put-below n m (Err why) = tt

printing-below : (n : ℕ) (o : Result (List ℕ) FaultKind) (items : List Content) → DoingBelow n (printing o items)
printing-below n (Ok text) items = tt
printing-below n (Err why) items = tt

print_next-below : (n : ℕ) (items : List Content) → DoingBelow n (print_next items)
print_next-below n [] = tt
print_next-below n (v ∷ items) = printing-below n (item_text v) items

made_by-below : (n scope : ℕ) (o : Result Plan FaultKind) → DoingBelow n (made_by scope o)
made_by-below n scope (Ok plan) = tt
made_by-below n scope (Err why) = tt

making-below : (n : ℕ) (modes : List Shape) (m scope : ℕ) (o : Result (List ℤ) FaultKind) → DoingBelow n (making modes m scope o)
making-below n modes m scope (Ok bounds) = made_by-below n scope (planned modes m bounds)
making-below n modes m scope (Err why) = tt

related-below : (n negated : ℕ) (o : Result Bool FaultKind) → DoingBelow n (related negated o)
related-below n zero (Ok b) = tt
related-below n (suc k) (Ok b) = tt
related-below n zero (Err why) = tt
related-below n (suc k) (Err why) = tt

worded-below : (n : ℕ) (o : Result (List ℕ) FaultKind) → DoingBelow n (worded o)
worded-below n (Ok text) = tt
worded-below n (Err why) = tt

whole_by-below : (n : ℕ) (v : Content) (number : Option ℤ) (width : ℤ) → DoingBelow n (whole_by v number width)
whole_by-below n v (Some z) width = worded-below n (whole_number z width)
whole_by-below n v None width = choose-below n (is_unset v) (Meets fault.Unset) (Meets fault.Kind) tt tt

whole-below : (n : ℕ) (v w : Content) → DoingBelow n (whole_of v w)
whole-below n v (plain (value.Int w)) = whole_by-below n v (number_in (member v)) w
whole-below n v w = choose-below n (is_unset v || is_unset w) (Meets fault.Unset) (Meets fault.Kind) tt tt

routine-below : (n t : ℕ) (d : Option ℕ) (chain : List Environ) (e : Environ) → DoingBelow n (routine_of t d chain e)
routine-below n t None chain e = tt
routine-below n t (Some d) chain e =
    option-below n (λ (o : Environ). Yields (plain (value.Routine (record { text = t; frame = e.frame; scope = o.scope })))) (slice_get chain d) (Meets fault.Kind) (λ o. tt) tt

pub start-below : (n : ℕ) (modes : List Shape) (op : Operation) (chain : List Environ) (vs : List Content) → DoingBelow n (start modes op chain vs)
unfolding start
start-below n modes (constant v) chain [] = tt
start-below n modes (skip m) chain [] = skipped-below n modes m
start-below n modes (tag hops slot) chain [] =
    option-below n (λ (e : Environ). Asks (want.Look e.frame slot) next.Value) (slice_get chain hops) (Meets fault.Kind) (λ e. tt) tt
start-below n modes nil chain [] = tt
start-below n modes (routine t d) chain [] =
    option-below n (routine_of t d chain) (slice_get chain 0) (Meets fault.Kind) (λ e. routine-below n t d chain e) tt
start-below n modes (make m k) chain bounds =
    option-below n (λ (e : Environ). making modes m e.scope (ints_of bounds)) (slice_get chain 0) (Meets fault.Kind) (λ e. making-below n modes m e.scope (ints_of bounds)) tt
start-below n modes (heap m k) chain bounds = making-below n modes m 0 (ints_of bounds)
start-below n modes (bind slot) chain (v ∷ []) =
    option-below n (λ (e : Environ). Asks (want.Bind e.frame slot v) next.Void) (slice_get chain 0) (Meets fault.Kind) (λ e. tt) tt
start-below n modes (deref m) chain (v ∷ []) = fetched-below n modes m v
start-below n modes (store m) chain (name ∷ v ∷ []) = assigned-below n modes m name v
start-below n modes (apply r) chain (v ∷ w ∷ []) = applied_to_two-below n r v w
start-below n modes (apply r) chain (v ∷ []) = applied_to_one-below n r v
start-below n modes (same negated) chain (v ∷ w ∷ []) = related-below n negated (is_same v w)
start-below n modes (slice forms) chain vs = sliced-below n forms vs
start-below n modes (display k m) chain vs = displayed_in-below n (dims_of_shape (shape_at modes m)) vs
start-below n modes (vacuum m) chain [] = vacuous-below n (shape_at modes m)
start-below n modes (compose k) chain vs = composed-below n k vs
start-below n modes (select m k) chain (v ∷ []) = selected_in-below n modes (names_rows modes (shape_at modes m)) k v (fields_of modes (shape_at modes m))
start-below n modes (unite m) chain (v ∷ []) = tt
start-below n modes (row_up m) chain (v ∷ []) = rowed_as-below n (dims_of_shape (shape_at modes m)) v
start-below n modes (row_up_name m) chain (v ∷ []) = rowed_name-below n (shape_behind modes (shape_at modes m)) v
start-below n modes widen chain (v ∷ []) = widened-below n v
start-below n modes drop chain (v ∷ []) = tt
start-below n modes print chain items = print_next-below n items
start-below n modes whole chain (v ∷ w ∷ []) = whole-below n v w
start-below n modes _ chain _ = tt

counted-below : (n : ℕ) (p : Plain) → DoingBelow n (counted p)
counted-below n (value.Int i) = tt
counted-below n p = tt

resumed_by-below : (n : ℕ) (modes : List Shape) (go : Next) (d : Descriptor) → DoingBelow n (resumed_by modes go d)
resumed_by-below n modes (next.Update r m p) d = extends-below n modes r m (plain p) d
resumed_by-below n modes (next.Extend r m w) d = extends-below n modes r m w d
resumed_by-below n modes (next.Sliced trims scope) d = names_part-below n scope (view d trims)
resumed_by-below n modes (next.Selected offset scope) d = named_rows-below n scope offset d
resumed_by-below n modes (next.Rowed scope) d = tt
resumed_by-below n modes (next.Bound upper i) d = yielding-below n (bound_of upper (bounds_of d.dims) i)
resumed_by-below n modes _ d = tt

resumed_with-below : (n : ℕ) (go : Next) (r : Reply) → DoingBelow n (resumed_with go r)
resumed_with-below n next.Value (reply.Value v) = tt
resumed_with-below n next.Held (reply.Held (held.Plain p)) = tt
resumed_with-below n next.Void reply.Go = tt
resumed_with-below n (next.Name m) reply.Go = tt
resumed_with-below n (next.Update r m p) (reply.Held (held.Plain old)) = put-below n m (updated r (plain old) (plain p))
resumed_with-below n (next.Raised k) (reply.Base cell) = tt
resumed_with-below n (next.Sema cell) reply.Go = tt
resumed_with-below n next.Count (reply.Held (held.Plain p)) = counted-below n p
resumed_with-below n (next.Made scope) (reply.Base cell) = tt
resumed_with-below n (next.Printing left) reply.Go = print_next-below n (reverse left)
resumed_with-below n _ _ = tt

pub resumed-below : (n : ℕ) (modes : List Shape) (go : Next) (r : Reply) → DoingBelow n (resumed modes go r)
unfolding resumed
resumed-below n modes (next.Steps steps left) r = stepped-below n modes steps r left
resumed-below n modes go (reply.Held (held.Rows d)) = resumed_by-below n modes go d
resumed-below n modes go r = resumed_with-below n go r
