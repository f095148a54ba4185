-- No operation asks for strands.
use Rattle.std.proofs.Common.{◌≡◌, ◌+◌, ℕ, ℤ, zero, suc, Bool, true, false, List, [], ◌∷◌, refl}
use Rattle.std.specs.Option.{is_some}
use Rattle.std.specs.Prelude.{None, Some, Ok, Err, pos, length, nat_eq, nat_lt, reverse, slice_get, ◌||◌}
use Rattle.std.specs.declared.option.Option.{Option}
use Rattle.std.specs.declared.result.Result.{Result}
use Rattle.a68_acts.specs.Operations.{Operation, constant, skip, nil, routine, tag, make, heap, bind, deref, store, apply, same, slice, display, vacuum, compose, select, unite, row_up, row_up_name, widen, drop, print, whole, start, resumed}
use Rattle.a68_acts.specs.Operations as op
use Rattle.a68_acts.specs.Rowing as rowing
use Rattle.a68_acts.specs.Steps as steps
use Rattle.a68_acts.specs.declared.operation.Doing.{Doing}
use Rattle.a68_acts.specs.declared.operation.Doing.TheVariants.{Yields, Meets}
use Rattle.a68_acts.specs.declared.operation.Next.{Next}
use Rattle.a68_acts.specs.declared.operation.Next.TheVariants as next
use Rattle.a68_acts.specs.declared.want.Reply.{Reply}
use Rattle.a68_acts.specs.declared.want.Reply.TheVariants as reply
use Rattle.a68_acts.specs.declared.want.Want.{Want}
use Rattle.a68_acts.specs.declared.want.Want.TheVariants as want
use Rattle.a68_layout.specs.Rooms.{planned}
use Rattle.a68_layout.specs.Views.{bounds_of, cells_seen, parts_in, part_of, view}
use Rattle.a68_layout.specs.Widths.{most_cells, cells_of}
use Rattle.a68_layout.specs.declared.types.TrimForm.{TrimForm}
use Rattle.a68_layout.specs.declared.types.Plan.{Plan}
use Rattle.a68_layout.specs.declared.types.Trim.{Trim}
use Rattle.a68_modes.specs.Nodes.{shape_at, is_plain, is_void}
use Rattle.a68_modes.specs.declared.shape.Shape.{Shape}
use Rattle.a68_ops.specs.Applied.{applied, updated}
use Rattle.a68_ops.specs.Printed.{item_text, member, whole as whole_number}
use Rattle.a68_ops.specs.Texts.{text_of}
use Rattle.a68_ops.specs.Yields.{Yield, is_unset}
use Rattle.a68_values.specs.Content.{Content, void, plain, structure, row, scope_of}
use Rattle.a68_values.specs.declared.act.FaultKind.{FaultKind}
use Rattle.a68_values.specs.declared.act.FaultKind.TheVariants as fault
use Rattle.a68_values.specs.declared.chain.Environ.{Environ}
use Rattle.a68_values.specs.declared.held.Descriptor.{Descriptor}
use Rattle.a68_values.specs.declared.held.Held.TheVariants as held
use Rattle.a68_values.specs.declared.plain.Name.{Name}
use Rattle.a68_values.specs.declared.plain.Plain.{Plain}
use Rattle.a68_values.specs.declared.plain.Plain.TheVariants as value
use Rattle.a68_heights.proofs.ForksOfSteps.{Forkless, goes-forkless, if-forkless, is_fork, or-forkless, stepped-forkless, yielding-forkless}

skipped-forkless : (modes : List Shape) (m : ℕ) → Forkless (op.skipped modes m)
skipped-forkless modes m =
    if-forkless (is_void (shape_at modes m)) _ _ refl
    (if-forkless (is_plain (shape_at modes m)) _ _ refl (if-forkless (steps.is_beyond modes m 0) _ _ refl refl))

fetched-forkless : (modes : List Shape) (m : ℕ) (v : Content) → Forkless (op.fetched modes m v)
fetched-forkless modes m (plain value.Unset) = refl
fetched-forkless modes m (plain value.Nil) = refl
fetched-forkless modes m (plain (value.Name n)) =
    if-forkless (is_plain (shape_at modes m)) _ _ refl (if-forkless (steps.is_beyond modes m n.cell) _ _ refl (goes-forkless modes _ []))
fetched-forkless modes m _ = refl

given-forkless : (n : Name) (v : Content) → Forkless (op.given n v)
given-forkless n (plain p) = if-forkless (nat_lt n.scope (scope_of (plain p))) _ _ refl refl
given-forkless n _ = refl

assigned-forkless : (modes : List Shape) (m : ℕ) (name v : Content) → Forkless (op.assigned modes m name v)
assigned-forkless modes m (plain value.Unset) v = refl
assigned-forkless modes m (plain value.Nil) v = refl
assigned-forkless modes m (plain (value.Name n)) v =
    if-forkless (is_plain (shape_at modes m)) _ _ (given-forkless n v)
    (if-forkless (nat_lt n.scope (scope_of v)) _ _ refl (if-forkless (steps.is_beyond modes m n.cell) _ _ refl (goes-forkless modes _ [])))
assigned-forkless modes m _ v = refl

by-forkless : (r : ℕ) (v : Content) (k : Plain) → Forkless (op.updating_by r v k)
by-forkless r (plain (value.Name n)) k = refl
by-forkless r (plain value.Nil) k = refl
by-forkless r v k = if-forkless (is_unset v) (Meets fault.Unset) (Meets fault.Kind) refl refl

extending-forkless : (r : ℕ) (v w : Content) → Forkless (rowing.extending r v w)
extending-forkless r (plain (value.Name n)) w = refl
extending-forkless r (plain value.Nil) w = refl
extending-forkless r _ w = refl

text-forkless : (r : ℕ) (v w : Content) → Forkless (rowing.updating_text r v w)
text-forkless r v w = if-forkless (is_unset v || is_unset w) _ _ refl (if-forkless (is_some (text_of w)) _ _ (extending-forkless r v w) refl)

updating-forkless : (r : ℕ) (v w : Content) → Forkless (op.updating r v w)
updating-forkless r v (plain (value.Int k)) = by-forkless r v (value.Int k)
updating-forkless r v (plain (value.Long l)) = by-forkless r v (value.Long l)
updating-forkless r v w = text-forkless r v w

put-forkless : (n : Name) (y : Yield) → Forkless (op.put n y)
put-forkless n (Ok (plain p)) = refl
put-forkless n (Ok _) = refl
put-forkless n (Err why) = refl

made-forkless : (scope : ℕ) (p : Result Plan FaultKind) → Forkless (op.made_by scope p)
made-forkless scope (Ok plan) = refl
made-forkless scope (Err why) = refl

making-forkless : (modes : List Shape) (m scope : ℕ) (bounds : Result (List ℤ) FaultKind) → Forkless (op.making modes m scope bounds)
making-forkless modes m scope (Ok bounds) = made-forkless scope (planned modes m bounds)
making-forkless modes m scope (Err why) = refl

from-forkless : (rows : Bool) (offset k : ℕ) (v : Content) → Forkless (op.selected_from rows offset k v)
from-forkless rows offset k (plain value.Unset) = refl
from-forkless rows offset k (plain value.Nil) = refl
from-forkless rows offset k (plain (value.Name n)) =
    if-forkless rows _ _ (if-forkless (nat_lt most_cells offset) _ _ refl refl) (if-forkless (nat_lt most_cells (n.cell + offset)) _ _ refl refl)
from-forkless rows offset k (structure vs) = or-forkless (λ v. Yields v) (op.part_at k vs) _ (λ v. refl) refl
from-forkless rows offset k (row bounds vs) = or-forkless (λ ws. Yields (row bounds ws)) (op.fields_at k vs) _ (λ ws. refl) refl
from-forkless rows offset k _ = refl

in-forkless : (modes : List Shape) (rows : Bool) (k : ℕ) (v : Content) (o : Option (List (ℕ × ℕ))) → Forkless (op.selected_in modes rows k v o)
in-forkless modes rows k v None = refl
in-forkless modes rows k v (Some fields) = if-forkless (nat_lt k (length fields)) _ _ (from-forkless rows _ k v) refl

related-forkless : (negated : ℕ) (r : Result Bool FaultKind) → Forkless (op.related negated r)
related-forkless zero (Ok b) = refl
related-forkless (suc n) (Ok b) = refl
related-forkless zero (Err why) = refl
related-forkless (suc n) (Err why) = refl

printing-forkless : (text : Result (List ℕ) FaultKind) (items : List Content) → Forkless (op.printing text items)
printing-forkless (Ok text) items = refl
printing-forkless (Err why) items = refl

print-forkless : (items : List Content) → Forkless (op.print_next items)
print-forkless [] = refl
print-forkless (v ∷ items) = printing-forkless (item_text v) items

worded-forkless : (text : Result (List ℕ) FaultKind) → Forkless (op.worded text)
worded-forkless (Ok text) = refl
worded-forkless (Err why) = refl

whole_by-forkless : (v : Content) (number : Option ℤ) (width : ℤ) → Forkless (op.whole_by v number width)
whole_by-forkless v (Some n) width = worded-forkless (whole_number n width)
whole_by-forkless v None width = if-forkless (is_unset v) (Meets fault.Unset) (Meets fault.Kind) refl refl

whole-forkless : (v w : Content) → Forkless (op.whole_of v w)
whole-forkless v (plain (value.Int w)) = whole_by-forkless v (op.number_in (member v)) w
whole-forkless v w = if-forkless (is_unset v || is_unset w) (Meets fault.Unset) (Meets fault.Kind) refl refl

frame-forkless : (chain : List Environ) (go : Environ → Doing) → ((e : Environ) → Forkless (go e)) → Forkless (op.in_frame chain go)
frame-forkless chain go p = or-forkless go (slice_get chain 0) _ p refl

routine-forkless : (t : ℕ) (distance : Option ℕ) (chain : List Environ) (e : Environ) → Forkless (op.routine_of t distance chain e)
routine-forkless t None chain e = refl
routine-forkless t (Some d) chain e = or-forkless _ (slice_get chain d) _ (λ o. refl) refl

leveled-forkless : (v : Content) → Forkless (op.leveled v)
leveled-forkless (plain value.Unset) = refl
leveled-forkless (plain (value.Int i)) = refl
leveled-forkless (plain (value.Sema cell)) = refl
leveled-forkless _ = refl

counted-forkless : (p : Plain) → Forkless (op.counted p)
counted-forkless (value.Int i) = refl
counted-forkless _ = refl

sema-forkless : (act : ℕ → Want) (v : Content) → ((c : ℕ) → is_fork (act c) ≡ false) → Forkless (op.on_sema act v)
sema-forkless act (plain value.Unset) p = refl
sema-forkless act (plain (value.Sema cell)) p = p cell
sema-forkless act _ p = refl

bounded-forkless : (upper : Bool) (i : ℤ) (v : Content) → Forkless (rowing.bounded upper i v)
bounded-forkless upper i (plain value.Nil) = refl
bounded-forkless upper i (plain (value.Name n)) = refl
bounded-forkless upper i (row bounds vs) = if-forkless (is_unset (row bounds vs)) _ _ refl (yielding-forkless (rowing.bound_of upper bounds i))
bounded-forkless upper i v = if-forkless (is_unset v) (Meets fault.Unset) (Meets fault.Kind) refl refl

bounded_by-forkless : (upper : Bool) (w v : Content) → Forkless (rowing.bounded_by upper w v)
bounded_by-forkless upper (plain (value.Int i)) v = bounded-forkless upper i v
bounded_by-forkless upper w v = if-forkless (is_unset w || is_unset v) (Meets fault.Unset) (Meets fault.Kind) refl refl

two-forkless : (r : ℕ) (v w : Content) → Forkless (op.applied_to_two r v w)
two-forkless r v w =
    if-forkless (op.is_update r) _ _ (updating-forkless r v w)
    (if-forkless (nat_eq r 6) _ _ (updating-forkless r w v)
    (if-forkless (nat_eq r 24) _ _ (bounded_by-forkless false v w)
    (if-forkless (nat_eq r 25) _ _ (bounded_by-forkless true v w) (yielding-forkless (applied r v w)))))

one-forkless : (r : ℕ) (v : Content) → Forkless (op.applied_to_one r v)
one-forkless r v =
    if-forkless (nat_eq r 34) _ _ (leveled-forkless v)
    (if-forkless (nat_eq r 35) _ _ (sema-forkless (λ c. want.Up c) v (λ c. refl))
    (if-forkless (nat_eq r 36) _ _ (sema-forkless (λ c. want.Down c) v (λ c. refl))
    (if-forkless (nat_eq r 37) _ _ (bounded-forkless false (pos 1) v)
    (if-forkless (nat_eq r 38) _ _ (bounded-forkless true (pos 1) v) (yielding-forkless (applied r void v))))))

sliced_by-forkless : (v : Content) (trims : List Trim) → Forkless (rowing.sliced_by v trims)
sliced_by-forkless (row bounds vs) trims = yielding-forkless (part_of bounds (parts_in vs) trims)
sliced_by-forkless (plain value.Nil) trims = refl
sliced_by-forkless (plain (value.Name n)) trims = refl
sliced_by-forkless _ trims = refl

set-forkless : (forms : List TrimForm) (v : Content) (is : Result (List ℤ) FaultKind) → Forkless (rowing.sliced_set forms v is)
set-forkless forms v (Ok is) = sliced_by-forkless v (rowing.trims_of forms is)
set-forkless forms v (Err why) = refl

with-forkless : (forms : List TrimForm) (v : Content) (is : Result (List ℤ) FaultKind) → Forkless (rowing.sliced_with forms v is)
with-forkless forms (plain value.Unset) is = refl
with-forkless forms v is = set-forkless forms v is

sliced-forkless : (forms : List TrimForm) (vs : List Content) → Forkless (rowing.sliced forms vs)
sliced-forkless forms [] = refl
sliced-forkless forms (v ∷ vs) = with-forkless forms v (rowing.ints_of vs)

names_part-forkless : (scope : ℕ) (d : Result Descriptor FaultKind) → Forkless (rowing.names_part scope d)
names_part-forkless scope (Ok d) = if-forkless (nat_eq (length d.dims) 0) _ _ refl refl
names_part-forkless scope (Err why) = refl

rows-forkless : (vs : List Content) (bounds : Result (List (ℤ × ℤ)) FaultKind) → Forkless (rowing.row_of_rows vs bounds)
rows-forkless vs (Ok bounds) = refl
rows-forkless vs (Err why) = refl

displayed-forkless : (dims : Option ℕ) (vs : List Content) → Forkless (rowing.displayed_in dims vs)
displayed-forkless None vs = refl
displayed-forkless (Some dims) vs = if-forkless (nat_eq dims 1) _ _ refl (rows-forkless vs (rowing.bounds_of_rows vs))

widened_row-forkless : (v : Content) → Forkless (rowing.widened_row v)
widened_row-forkless (row bounds vs) = refl
widened_row-forkless _ = refl

rowed-forkless : (dims : Option ℕ) (v : Content) → Forkless (rowing.rowed_as dims v)
rowed-forkless None v = refl
rowed-forkless (Some dims) v = if-forkless (nat_eq dims 1) _ _ refl (widened_row-forkless v)

rowed_in-forkless : (dims : Option ℕ) (n : Name) → Forkless (rowing.rowed_in dims n)
rowed_in-forkless None n = refl
rowed_in-forkless (Some dims) n = if-forkless (nat_eq dims 1) _ _ refl refl

rowed_name-forkless : (s : Shape) (v : Content) → Forkless (rowing.rowed_name s v)
rowed_name-forkless s (plain value.Unset) = refl
rowed_name-forkless s (plain value.Nil) = refl
rowed_name-forkless s (plain (value.Name n)) = rowed_in-forkless (rowing.dims_of_shape s) n
rowed_name-forkless s _ = refl

widened-forkless : (v : Content) → Forkless (rowing.widened v)
widened-forkless (plain value.Unset) = refl
widened-forkless (plain (value.Bits b)) = refl
widened-forkless _ = refl

pub start_forkless : (modes : List Shape) (o : Operation) (chain : List Environ) (vs : List Content) → Forkless (start modes o chain vs)
unfolding start
start_forkless modes (constant v) chain [] = refl
start_forkless modes (skip m) chain [] = skipped-forkless modes m
start_forkless modes (tag hops slot) chain [] = or-forkless _ (slice_get chain hops) _ (λ e. refl) refl
start_forkless modes nil chain [] = refl
start_forkless modes (routine t d) chain [] = frame-forkless chain _ (routine-forkless t d chain)
start_forkless modes (make m n) chain bounds = frame-forkless chain _ (λ e. making-forkless modes m e.scope (rowing.ints_of bounds))
start_forkless modes (heap m n) chain bounds = making-forkless modes m 0 (rowing.ints_of bounds)
start_forkless modes (bind slot) chain (v ∷ []) = frame-forkless chain _ (λ e. refl)
start_forkless modes (deref m) chain (v ∷ []) = fetched-forkless modes m v
start_forkless modes (store m) chain (n ∷ v ∷ []) = assigned-forkless modes m n v
start_forkless modes (apply r) chain (v ∷ w ∷ []) = two-forkless r v w
start_forkless modes (apply r) chain (v ∷ []) = one-forkless r v
start_forkless modes (same negated) chain (v ∷ w ∷ []) = related-forkless negated (op.is_same v w)
start_forkless modes (slice forms) chain vs = sliced-forkless forms vs
start_forkless modes (display n m) chain vs = displayed-forkless (rowing.dims_of_shape (shape_at modes m)) vs
start_forkless modes (vacuum m) chain [] = or-forkless _ (rowing.dims_of_shape (shape_at modes m)) _ (λ dims. refl) refl
start_forkless modes (compose n) chain vs = if-forkless (nat_eq (length vs) n) _ _ refl refl
start_forkless modes (select m k) chain (v ∷ []) = in-forkless modes _ k v (op.fields_of modes (shape_at modes m))
start_forkless modes (unite m) chain (v ∷ []) = refl
start_forkless modes (row_up m) chain (v ∷ []) = rowed-forkless (rowing.dims_of_shape (shape_at modes m)) v
start_forkless modes (row_up_name m) chain (v ∷ []) = rowed_name-forkless (op.shape_behind modes (shape_at modes m)) v
start_forkless modes widen chain (v ∷ []) = widened-forkless v
start_forkless modes drop chain (v ∷ []) = refl
start_forkless modes print chain items = print-forkless items
start_forkless modes whole chain (v ∷ w ∷ []) = whole-forkless v w
start_forkless modes _ chain _ = refl

extended-forkless : (modes : List Shape) (r : ℕ) (n : Name) (w : Content) (bounds : List (ℤ × ℤ)) (cells : Result (List ℕ) FaultKind) → Forkless (rowing.extended modes r n w bounds cells)
extended-forkless modes r n w bounds (Ok cells) = goes-forkless modes _ []
extended-forkless modes r n w bounds (Err why) = refl

resumed_by-forkless : (modes : List Shape) (n : Next) (d : Descriptor) → Forkless (op.resumed_by modes n d)
resumed_by-forkless modes (next.Update r n p) d = extended-forkless modes r n (plain p) (bounds_of d.dims) (cells_seen d (cells_of modes 3))
resumed_by-forkless modes (next.Extend r n w) d = extended-forkless modes r n w (bounds_of d.dims) (cells_seen d (cells_of modes 3))
resumed_by-forkless modes (next.Sliced trims scope) d = names_part-forkless scope (view d trims)
resumed_by-forkless modes (next.Selected offset scope) d = if-forkless (nat_lt most_cells (d.base + offset)) _ _ refl refl
resumed_by-forkless modes (next.Rowed scope) d = refl
resumed_by-forkless modes (next.Bound upper i) d = yielding-forkless (rowing.bound_of upper (bounds_of d.dims) i)
resumed_by-forkless modes _ d = refl

resumed_with-forkless : (n : Next) (r : Reply) → Forkless (op.resumed_with n r)
resumed_with-forkless next.Value (reply.Value v) = refl
resumed_with-forkless next.Held (reply.Held (held.Plain p)) = refl
resumed_with-forkless next.Void reply.Go = refl
resumed_with-forkless (next.Name n) reply.Go = refl
resumed_with-forkless (next.Update r n p) (reply.Held (held.Plain old)) = put-forkless n (updated r (plain old) (plain p))
resumed_with-forkless (next.Raised count) (reply.Base cell) = refl
resumed_with-forkless (next.Sema cell) reply.Go = refl
resumed_with-forkless next.Count (reply.Held (held.Plain p)) = counted-forkless p
resumed_with-forkless (next.Made scope) (reply.Base cell) = refl
resumed_with-forkless (next.Printing left) reply.Go = print-forkless (reverse left)
resumed_with-forkless _ _ = refl

pub resumed_forkless : (modes : List Shape) (n : Next) (r : Reply) → Forkless (resumed modes n r)
unfolding resumed
resumed_forkless modes (next.Steps s left) r = stepped-forkless modes s r left
resumed_forkless modes n (reply.Held (held.Rows d)) = resumed_by-forkless modes n d
resumed_forkless modes n r = resumed_with-forkless n r
