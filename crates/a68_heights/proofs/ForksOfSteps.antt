-- No step asks for strands.
use Rattle.std.proofs.Common.{◌≡◌, ℕ, ℤ, Bool, true, false, List, [], ◌∷◌, refl}
use Rattle.std.specs.Option.{option_map_or}
use Rattle.std.specs.Prelude.{None, Some, Ok, Err, length, nat_eq, if◌then◌else◌}
use Rattle.std.specs.declared.option.Option.{Option}
use Rattle.std.specs.declared.result.Result.{Result}
use Rattle.a68_acts.specs.Rowing as rowing
use Rattle.a68_acts.specs.Steps as steps
use Rattle.a68_acts.specs.declared.operation.Doing.{Doing}
use Rattle.a68_acts.specs.declared.operation.Doing.TheVariants.{Asks}
use Rattle.a68_acts.specs.declared.step.Step.{Step}
use Rattle.a68_acts.specs.declared.step.Step.TheVariants as step
use Rattle.a68_acts.specs.declared.want.Reply.{Reply}
use Rattle.a68_acts.specs.declared.want.Reply.TheVariants as reply
use Rattle.a68_acts.specs.declared.want.Want.{Want}
use Rattle.a68_acts.specs.declared.want.Want.TheVariants as want
use Rattle.a68_layout.specs.Rooms.{planned_for, planned_elements}
use Rattle.a68_layout.specs.Views.{bounds_of, cells_seen, new_row}
use Rattle.a68_layout.specs.Widths.{cells_of}
use Rattle.a68_layout.specs.declared.types.Plan.{Plan}
use Rattle.a68_modes.specs.declared.shape.Shape.{Shape}
use Rattle.a68_ops.specs.Applied.{updated}
use Rattle.a68_ops.specs.Yields.{Yield}
use Rattle.a68_values.specs.Content.{Content, plain, row, contents_of}
use Rattle.a68_values.specs.declared.act.FaultKind.{FaultKind}
use Rattle.a68_values.specs.declared.held.Descriptor.{Descriptor}
use Rattle.a68_values.specs.declared.held.Held.TheVariants as held
use Rattle.a68_values.specs.declared.plain.Name.{Name}
use Rattle.a68_values.specs.declared.plain.Plain.TheVariants as value

-- whether an act makes strands
abbrev pub is_fork : Want → Bool
is_fork (want.Fork entrances) = true
is_fork _ = false

-- whether an operation asks for such an act
abbrev pub asks_fork : Doing → Bool
asks_fork (Asks w next) = is_fork w
asks_fork _ = false

-- an operation that goes on so asks for no strands
abbrev pub Forkless : Doing → Type 0
Forkless d = asks_fork d ≡ false

pub if-forkless : (b : Bool) (x y : Doing) → Forkless x → Forkless y → Forkless (if b then x else y)
if-forkless true x y p q = p
if-forkless false x y p q = q

pub or-forkless : {A : Type 0} (f : A → Doing) (o : Option A) (d : Doing) → ((x : A) → Forkless (f x)) → Forkless d → Forkless (option_map_or f o d)
or-forkless f None d p q = q
or-forkless f (Some x) d p q = p x

pub yielding-forkless : (y : Yield) → Forkless (rowing.yielding y)
yielding-forkless (Ok v) = refl
yielding-forkless (Err why) = refl

-- ---- steps

last-forkless : (left : List Content) → Forkless (steps.last_left left)
last-forkless [] = refl
last-forkless (v ∷ []) = refl
last-forkless (v ∷ w ∷ left) = refl

makes-forkless : (p : Result Plan FaultKind) (s : List Step) (left : List Content) → Forkless (steps.told (steps.makes p) s left)
makes-forkless (Ok plan) s left = refl
makes-forkless (Err why) s left = refl

replaces-forkless : (modes : List Shape) (of : ℕ) (flex : Bool) (cell : ℕ) (vs : List Content) (s : List Step) (left : List Content)
    → Forkless (steps.told (steps.replaces modes of flex cell vs) s left)
replaces-forkless modes of false cell vs s left = refl
replaces-forkless modes of true cell vs s left = makes-forkless (planned_elements modes of (contents_of vs)) s left

updates-forkless : (modes : List Shape) (n : Name) (y : Yield) (behind : List Step) (left : List Content) → Forkless (steps.updates modes n y behind left)
updates-forkless modes n (Ok (row bounds vs)) behind left = makes-forkless (planned_elements modes 3 vs) _ left
updates-forkless modes n (Ok v) behind left = refl
updates-forkless modes n (Err why) behind left = refl

asked-forkless : (modes : List Shape) (s : Step) (behind : List Step) (left : List Content) → Forkless (steps.asked modes s behind left)
asked-forkless modes (step.Fetch cell) behind left = refl
asked-forkless modes (step.FetchUnion cell) behind left = refl
asked-forkless modes (step.Assign cell h) behind left = refl
asked-forkless modes (step.AssignUnion cell m v) behind left = makes-forkless (planned_for modes m v) _ left
asked-forkless modes (step.FetchRow of cell) behind left = refl
asked-forkless modes (step.AssignRow of flex cell bounds vs) behind left = replaces-forkless modes of flex cell vs _ left
asked-forkless modes (step.Update r n other) behind [] = refl
asked-forkless modes (step.Update r n other) behind (v ∷ left) = updates-forkless modes n (updated r v other) behind left
asked-forkless modes _ behind left = refl

acting-forkless : (modes : List Shape) (s : List Step) (left : List Content) → Forkless (steps.acting modes s left)
acting-forkless modes [] left = last-forkless left
acting-forkless modes (s ∷ behind) left = asked-forkless modes s behind left

pub goes-forkless : (modes : List Shape) (s : List Step) (left : List Content) → Forkless (steps.goes modes s left)
unfolding steps.goes
goes-forkless modes s left = acting-forkless modes (steps.silent s left).0 (steps.silent s left).1

elements-forkless : (modes : List Shape) (of : ℕ) (cells : Result (List ℕ) FaultKind) (vs : List Content) (behind : List Step) (left : List Content)
    → Forkless (steps.assigns_elements modes of cells vs behind left)
elements-forkless modes of (Ok cells) vs behind left = if-forkless (nat_eq (length cells) (length vs)) _ _ (goes-forkless modes _ left) refl
elements-forkless modes of (Err why) vs behind left = refl

row-forkless : (modes : List Shape) (of : ℕ) (bounds : List (ℤ × ℤ)) (cells : Result (List ℕ) FaultKind) (behind : List Step) (left : List Content)
    → Forkless (steps.fetches_row modes of bounds cells behind left)
row-forkless modes of bounds (Ok cells) behind left = goes-forkless modes _ left
row-forkless modes of bounds (Err why) behind left = refl

new-forkless : (modes : List Shape) (of cell : ℕ) (d : Result Descriptor FaultKind) (vs : List Content) (behind : List Step) (left : List Content)
    → Forkless (steps.assigns_new modes of cell d vs behind left)
new-forkless modes of cell (Ok d) vs behind left = elements-forkless modes of (cells_seen d (cells_of modes of)) vs _ left
new-forkless modes of cell (Err why) vs behind left = refl

assigns-forkless : (modes : List Shape) (of : ℕ) (flex : Bool) (cell : ℕ) (bounds : List (ℤ × ℤ)) (vs : List Content) (r : Reply) (behind : List Step) (left : List Content)
    → Forkless (steps.assigns modes of flex cell bounds vs r behind left)
assigns-forkless modes of false cell bounds vs (reply.Held (held.Rows d)) behind left =
    if-forkless (steps.same_bounds (bounds_of d.dims) bounds) _ _ (elements-forkless modes of (cells_seen d (cells_of modes of)) vs behind left) refl
assigns-forkless modes of true cell bounds vs (reply.Base base) behind left = new-forkless modes of cell (new_row base (cells_of modes of) bounds) vs behind left
assigns-forkless modes of flex cell bounds vs _ behind left = refl

replied-forkless : (modes : List Shape) (s : Step) (r : Reply) (behind : List Step) (left : List Content) → Forkless (steps.replied modes s r behind left)
replied-forkless modes (step.Fetch cell) (reply.Held (held.Plain p)) behind left = goes-forkless modes behind (plain p ∷ left)
replied-forkless modes (step.FetchUnion cell) (reply.Held (held.Plain value.Unset)) behind left = goes-forkless modes behind (plain value.Unset ∷ left)
replied-forkless modes (step.FetchUnion cell) (reply.Held (held.Member m base)) behind left =
    if-forkless (steps.is_beyond modes m base) _ _ refl (goes-forkless modes _ left)
replied-forkless modes step.Assigned reply.Go behind left = goes-forkless modes behind left
replied-forkless modes (step.AssignUnion cell m v) (reply.Base base) behind left =
    if-forkless (steps.is_beyond modes m base) _ _ refl (goes-forkless modes _ left)
replied-forkless modes (step.FetchRow of cell) (reply.Held (held.Rows d)) behind left =
    row-forkless modes of (bounds_of d.dims) (cells_seen d (cells_of modes of)) behind left
replied-forkless modes (step.AssignRow of flex cell bounds vs) r behind left = assigns-forkless modes of flex cell bounds vs r behind left
replied-forkless modes _ _ behind left = refl

pub stepped-forkless : (modes : List Shape) (s : List Step) (r : Reply) (left : List Content) → Forkless (steps.stepped modes s r left)
unfolding steps.stepped
stepped-forkless modes [] r left = refl
stepped-forkless modes (s ∷ behind) r left = replied-forkless modes s r behind left
