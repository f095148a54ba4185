-- Silent steps keep scopes below a number.
use Rattle.std.proofs.Common.{◌≡◌, ℕ, zero, suc, ◌<◌, ◌≤◌, ◌+◌, ◌*◌, ◌-◌, ◌^◌, Bool, true, false, List, [], ◌∷◌, length, refl, arith}
use Rattle.std.specs.Prelude.{None, Some, Ok, Err, IfSome, IsTrue, map, reverse, slice_get, slice_index_or, nat_eq, nat_lt, if◌then◌else◌}
use Rattle.std.specs.Option.{option_map_or}
use Rattle.std.specs.declared.option.Option.{Option}
use Rattle.std.specs.declared.result.Result.{Result}
use Rattle.std.proofs.lemmas.Bool.{lt-ltb}
use Rattle.a68_acts.specs.Members.{member_of}
use Rattle.a68_acts.specs.Operations.{Operation, leaves, start, resumed, called, tested, case_of, counter_of, has_turn, advanced}
use Rattle.a68_acts.specs.declared.operation.Counter.{Counter}
use Rattle.a68_acts.specs.declared.operation.Doing.{Doing}
use Rattle.a68_acts.specs.declared.operation.Doing.TheVariants.{Yields, Asks, Meets}
use Rattle.a68_acts.specs.declared.want.Reply.{Reply}
use Rattle.a68_acts.specs.declared.want.Reply.TheVariants as reply
use Rattle.a68_acts.specs.declared.want.Want.{Want}
use Rattle.a68_acts.specs.declared.want.Want.TheVariants as want
use Rattle.a68_code.specs.Flow.{does_at, takes, last_place}
use Rattle.a68_code.specs.declared.code.Code.{Code}
use Rattle.a68_code.specs.declared.code.RoutineEntrance.{RoutineEntrance}
use Rattle.a68_code.specs.declared.does.Does.{Does}
use Rattle.a68_code.specs.declared.does.Does.TheVariants as does
use Rattle.a68_modes.specs.Nodes.{shape_at}
use Rattle.a68_modes.specs.declared.shape.Shape.{Shape}
use Rattle.a68_instructions.specs.Machine.{State, stack_of, goes_on, goes_to, fails, back, jumps, follows, operates, enters, yields_to, leaves_frame, branches, unless, chooses, cases, kept_of, to_member, members, with_counter, counts, indexes, steps, advances, forgets, calling, calls, enters_body, begins_body, binds, returns_to, returns, operation_of, controls, exec, at_end, does_one, silently, next_state, settle_in, settle, leaves_at, told_by, replied_in, replied}
use Rattle.a68_stack.specs.Room.{has_room}
use Rattle.a68_instructions.specs.Room.{brings_room}
use Rattle.a68_stack.proofs.Cutting.{cut_below}
use Rattle.a68_stack.specs.Values.{callers, cut, pop_values, top_counter, top_value}
use Rattle.a68_instructions.specs.Unbound.{Unbound}
use Rattle.a68_instructions.specs.declared.ask.Stance.{Stance}
use Rattle.a68_instructions.specs.declared.ask.Stance.TheVariants.{Idle, Asking, Failed, Waits, Closed}
use Rattle.a68_instructions.specs.declared.ask.Waiting.{Waiting}
use Rattle.a68_instructions.specs.declared.ask.Waiting.TheVariants as waiting
use Rattle.a68_stack.specs.declared.stack.Item.{Item}
use Rattle.a68_stack.specs.declared.stack.Item.TheVariants as item
use Rattle.a68_values.specs.Content.{Content, plain, scope_of}
use Rattle.a68_values.specs.declared.plain.Plain.TheVariants as value
use Rattle.a68_values.specs.declared.plain.Routine.{Routine}
use Rattle.a68_values.specs.declared.act.FaultKind.{FaultKind}
use Rattle.a68_values.specs.declared.act.FaultKind.TheVariants as fault
use Rattle.a68_values.specs.declared.chain.Environ.{Environ}
use Rattle.a68_world.specs.Scopes.{ChainBelow, ItemsBelow, WantBelow, WaitsNot, AskedBelow, AskBelow, DoingBelow, StanceBelow, ReplyBelow, StateBelow}
use Rattle.a68_world.proofs.Asked.{start-below, resumed-below}

-- a strand in frames of such scopes, with such callers on its stack
abbrev Stands : ℕ → State → Type 0
Stands n st = ChainBelow n st.chain × ItemsBelow n st.stack.items

ask-of : (n : ℕ) (w : Want) (wait : Waiting) → WaitsNot wait → AskedBelow n w → AskBelow n w wait
ask-of n (want.Enter outer scope slots) wait free p = (p, free)
ask-of n (want.Fork entrances) wait free p = absurd p
ask-of n _ wait free p = free

pub want-of : (n : ℕ) (w : Want) (wait : Waiting) → AskBelow n w wait → WantBelow n w
want-of n (want.Enter outer scope slots) wait p = p.0
want-of n _ wait p = tt

failed : (n : ℕ) (st : State) (why : FaultKind) → Stands n st → StateBelow n (fails st why)
failed n st why p = record { chain = p.0; items = tt; stance = tt }

on : (n : ℕ) (st : State) (items : List Item) → Stands n st → ItemsBelow n items → StateBelow n (goes_on st items)
on n st items p q = record { chain = p.0; items = q; stance = tt }

to-place : (n : ℕ) (st : State) (at : ℕ) (items : List Item) → Stands n st → ItemsBelow n items → StateBelow n (goes_to st at items)
to-place n st at items p q = record { chain = p.0; items = q; stance = tt }

follows-below : (n : ℕ) (st : State) (b : Bool) (items : List Item) (doing : Doing) → Stands n st → ItemsBelow n items → DoingBelow n doing → StateBelow n (follows st b items doing)
follows-below n st true items (Yields v) p i q = record { chain = p.0; items = i; stance = tt }
follows-below n st false items (Yields v) p i q = record { chain = p.0; items = i; stance = tt }
follows-below n st b items (Asks w go) p i q = record { chain = p.0; items = i; stance = ask-of n w (waiting.Operation go) tt q }
follows-below n st b items (Meets why) p i q = record { chain = p.0; items = tt; stance = tt }

-- what stands below values that are taken off
PoppedBelow : ℕ → Option (List Content × List Item) → Type 0
PoppedBelow n o = IfSome o (λ popped. ItemsBelow n popped.1)

popped-below : (n k : ℕ) (items : List Item) (vs : List Content) → ItemsBelow n items → PoppedBelow n (pop_values k items vs)
unfolding PoppedBelow
popped-below n zero items vs i = i
popped-below n (suc k) [] vs i = tt
popped-below n (suc k) (item.Value v ∷ items) vs i = popped-below n k items (v ∷ vs) i
popped-below n (suc k) (item.Counter c ∷ items) vs i = tt
popped-below n (suc k) (item.Caller c ∷ items) vs i = tt

operates-below : (n : ℕ) (modes : List Shape) (st : State) (op : Operation) (k : ℕ) → Stands n st → StateBelow n (operates modes st op k)
unfolding PoppedBelow
operates-below n modes st op k p = popped (pop_values k st.stack.items []) (popped-below n k st.stack.items [] p.1)
  where
    popped : (o : Option (List Content × List Item)) → IfSome o (λ popped. ItemsBelow n popped.1)
        → StateBelow n (option_map_or (λ (popped : List Content × List Item). follows st (leaves modes op) popped.1 (start modes op st.chain popped.0)) o (fails st fault.Kind))
    popped None i = failed n st fault.Kind p
    popped (Some q) i = follows-below n st (leaves modes op) q.1 (start modes op st.chain q.0) p i (start-below n modes op st.chain q.0)

enters-below : (n : ℕ) (st : State) (slots : ℕ) (chain : List Environ) → Stands n st → ChainBelow n chain → StateBelow n (enters st slots chain)
enters-below n st slots [] p q = failed n st fault.Kind p
enters-below n st slots (e ∷ chain) p q = record { chain = p.0; items = p.1; stance = (omega (arith, q.0), tt) }

yields_to-below : (n : ℕ) (st : State) (outwards : List Environ) (scope : ℕ) (o : Option Content) → Stands n st → ChainBelow n outwards
    → StateBelow n (yields_to st outwards scope o)
yields_to-below n st outwards scope None p q = failed n st fault.Kind p
yields_to-below n st outwards scope (Some v) p q = test (nat_lt scope (scope_of v))
  where
    test : (b : Bool) → StateBelow n (if b then fails st fault.Scope else record st { at = suc st.at; chain = outwards; stance = Idle })
    test true = failed n st fault.Scope p
    test false = record { chain = q; items = p.1; stance = tt }

leaves-below : (n : ℕ) (st : State) (kept : ℕ) (chain : List Environ) → Stands n st → ChainBelow n chain → StateBelow n (leaves_frame st kept chain)
leaves-below n st kept (inner ∷ e ∷ chain) p q = test (nat_eq kept 0)
  where
    test : (b : Bool)
        → StateBelow n (if b then record st { at = suc st.at; chain = e ∷ chain; stance = Idle } else yields_to st (e ∷ chain) e.scope (top_value st.stack.items))
    test true = record { chain = q.1; items = p.1; stance = tt }
    test false = yields_to-below n st (e ∷ chain) e.scope (top_value st.stack.items) p q.1
leaves-below n st kept [] p q = failed n st fault.Kind p
leaves-below n st kept (inner ∷ []) p q = failed n st fault.Kind p

back-below : (n k : ℕ) (chain : List Environ) → ChainBelow n chain → IfSome (back k chain) (ChainBelow n)
back-below n zero chain p = p
back-below n (suc k) [] p = tt
back-below n (suc k) (e ∷ chain) p = back-below n k chain p.1

cut-below : (n kept : ℕ) (items : List Item) → ItemsBelow n items → IfSome (cut kept items) (ItemsBelow n)
cut-below n kept items p = by_items (cut kept items) refl
  where
    by_items : (o : Option (List Item)) → cut kept items ≡ o → IfSome o (ItemsBelow n)
    by_items None e = tt
    by_items (Some left) e = cut_below (ItemsBelow n) (λ v rest q. q) (λ c rest q. q) kept items left e p

jumps-below : (n : ℕ) (st : State) (to : ℕ) (chain : Option (List Environ)) (items : Option (List Item)) → Stands n st → IfSome chain (ChainBelow n) → IfSome items (ItemsBelow n)
    → StateBelow n (jumps st to chain items)
jumps-below n st to None items p q i = failed n st fault.Kind p
jumps-below n st to (Some chain) None p q i = failed n st fault.Kind p
jumps-below n st to (Some chain) (Some items) p q i = record { chain = q; items = i; stance = tt }

branches-below : (n : ℕ) (st : State) (to : ℕ) (items : List Item) (r : Result Bool FaultKind) → Stands n st → ItemsBelow n items → StateBelow n (branches st to items r)
branches-below n st to items (Ok true) p i = on n st items p i
branches-below n st to items (Ok false) p i = to-place n st to items p i
branches-below n st to items (Err why) p i = failed n st why p

unless-below : (n : ℕ) (st : State) (to : ℕ) (items : List Item) → Stands n st → ItemsBelow n items → StateBelow n (unless st to items)
unless-below n st to (item.Value v ∷ items) p i = branches-below n st to items (tested v) p i
unless-below n st to _ p i = failed n st fault.Kind p

chooses-below : (n : ℕ) (st : State) (places : List ℕ) (items : List Item) (r : Result ℕ FaultKind) → Stands n st → ItemsBelow n items → StateBelow n (chooses st places items r)
chooses-below n st places items (Ok k) p i = to-place n st (slice_index_or places k 0) items p i
chooses-below n st places items (Err why) p i = failed n st why p

cases-below : (n : ℕ) (st : State) (places : List ℕ) (items : List Item) → Stands n st → ItemsBelow n items → StateBelow n (cases st places items)
cases-below n st places (item.Value v ∷ items) p i = chooses-below n st places items (case_of (length places - 1) v) p i
cases-below n st places _ p i = failed n st fault.Kind p

with_counter-below : (n : ℕ) (st : State) (items : List Item) (r : Result Counter FaultKind) → Stands n st → ItemsBelow n items → StateBelow n (with_counter st items r)
with_counter-below n st items (Ok c) p i = on n st (item.Counter c ∷ items) p i
with_counter-below n st items (Err why) p i = failed n st why p

counts-below : (n : ℕ) (st : State) (items : List Item) → Stands n st → ItemsBelow n items → StateBelow n (counts st items)
counts-below n st (item.Value t ∷ item.Value b ∷ item.Value a ∷ items) p i = with_counter-below n st items (counter_of a b t) p i
counts-below n st _ p i = failed n st fault.Kind p

steps-below : (n : ℕ) (st : State) (to : ℕ) (o : Option Counter) → Stands n st → StateBelow n (steps st to o)
steps-below n st to None p = failed n st fault.Kind p
steps-below n st to (Some c) p = test (has_turn c)
  where
    test : (b : Bool) → StateBelow n (if b then goes_on st st.stack.items else goes_to st to st.stack.items)
    test true = on n st st.stack.items p p.1
    test false = to-place n st to st.stack.items p p.1

indexes-below : (n : ℕ) (st : State) (o : Option Counter) → Stands n st → StateBelow n (indexes st o)
indexes-below n st None p = failed n st fault.Kind p
indexes-below n st (Some c) p = on n st (item.Value (plain (value.Int c.at)) ∷ st.stack.items) p p.1

advances-below : (n : ℕ) (st : State) (to : ℕ) (items : List Item) → Stands n st → ItemsBelow n items → StateBelow n (advances st to items)
advances-below n st to (item.Counter c ∷ items) p i = next (advanced c)
  where
    next : (o : Option Counter) → StateBelow n (option_map_or (λ (next : Counter). goes_to st to (item.Counter next ∷ items)) o (goes_on st (item.Counter c ∷ items)))
    next None = on n st (item.Counter c ∷ items) p i
    next (Some d) = to-place n st to (item.Counter d ∷ items) p i
advances-below n st to _ p i = failed n st fault.Kind p

forgets-below : (n : ℕ) (st : State) (items : List Item) → Stands n st → ItemsBelow n items → StateBelow n (forgets st items)
forgets-below n st (item.Counter c ∷ items) p i = on n st items p i
forgets-below n st _ p i = failed n st fault.Kind p

-- ---- calls

calling-below : (n : ℕ) (st : State) (items : List Item) (vs : List Content) (r : Result Routine FaultKind) → Stands n st → ItemsBelow n items → StateBelow n (calling st items vs r)
calling-below n st items vs (Ok r) p i = record { chain = p.0; items = i; stance = tt }
calling-below n st items vs (Err why) p i = failed n st why p

calls-below : (n : ℕ) (texts : List RoutineEntrance) (st : State) (gives : Bool) (o : Option (List Content × List Item)) → Stands n st → PoppedBelow n o → StateBelow n (calls texts st gives o)
unfolding PoppedBelow
calls-below n texts st gives None p i = failed n st fault.Kind p
calls-below n texts st gives (Some ([], items)) p i = failed n st fault.Kind p
calls-below n texts st gives (Some (v ∷ vs, items)) p i = calling-below n st items vs (called (map (λ (e : RoutineEntrance). e.yields) texts) gives v) p i

enters_body-below : (n : ℕ) (st : State) (r : Routine) (ps : Unbound) (chain : List Environ) → Stands n st → ChainBelow n chain → StateBelow n (enters_body st r ps chain)
enters_body-below n st r ps [] p q = failed n st fault.Kind p
enters_body-below n st r ps (e ∷ outer) p q = record { chain = p.0; items = p.1; stance = (omega (arith, q.0), tt) }

begins_body-below : (n : ℕ) (st : State) (o : Option RoutineEntrance) → Stands n st → StateBelow n (begins_body st o)
begins_body-below n st None p = failed n st fault.Kind p
begins_body-below n st (Some e) p = record { chain = p.0; items = p.1; stance = tt }

binds-below : (n : ℕ) (texts : List RoutineEntrance) (st : State) (text slot : ℕ) (vs : List Content) (chain : List Environ) → Stands n st → StateBelow n (binds texts st text slot vs chain)
binds-below n texts st text slot [] chain p = begins_body-below n st (slice_get texts text) p
binds-below n texts st text slot (v ∷ vs) [] p = failed n st fault.Kind p
binds-below n texts st text slot (v ∷ vs) (e ∷ outer) p = record { chain = p.0; items = p.1; stance = tt }

returns_to-below : (n : ℕ) (st : State) (to : ℕ) (chain : List Environ) (v : Content) (items : List Item) → Stands n st → ChainBelow n chain → ItemsBelow n items
    → StateBelow n (returns_to st to chain v items)
returns_to-below n st to [] v items p q i = failed n st fault.Kind p
returns_to-below n st to (e ∷ outer) v items p q i = test (nat_lt e.scope (scope_of v))
  where
    test : (b : Bool) → StateBelow n (if b then fails st fault.Scope else record { at = to; stack = stack_of (item.Value v ∷ items); chain = e ∷ outer; stance = Idle })
    test true = failed n st fault.Scope p
    test false = record { chain = q; items = i; stance = tt }

returns-below : (n : ℕ) (st : State) (items : List Item) → Stands n st → ItemsBelow n items → StateBelow n (returns st items)
returns-below n st (item.Value v ∷ (item.Caller c ∷ items)) p i = returns_to-below n st c.to c.chain v items p i.0 i.1
returns-below n st (item.Caller c ∷ items) p i = record { chain = i.0; items = i.1; stance = tt }
returns-below n st _ p i = failed n st fault.Kind p

to_member-below : (n : ℕ) (st : State) (places wholes : List ℕ) (items : List Item) (v : Content) (o : Result ℕ FaultKind) → Stands n st → ItemsBelow n items
    → StateBelow n (to_member st places wholes items v o)
to_member-below n st places wholes items v (Ok k) p i = test (nat_eq (slice_index_or places k 0) (last_place places))
  where
    test : (b : Bool) → StateBelow n (if b then goes_to st (slice_index_or places k 0) items else goes_to st (slice_index_or places k 0) (item.Value (kept_of (slice_index_or wholes k 0) v) ∷ items))
    test true = to-place n st (slice_index_or places k 0) items p i
    test false = to-place n st (slice_index_or places k 0) (item.Value (kept_of (slice_index_or wholes k 0) v) ∷ items) p i
to_member-below n st places wholes items v (Err why) p i = failed n st why p

members-below : (n : ℕ) (union : Shape) (st : State) (places wholes : List ℕ) (items : List Item) → Stands n st → ItemsBelow n items → StateBelow n (members union st places wholes items)
members-below n union st places wholes (item.Value v ∷ items) p i = to_member-below n st places wholes items v (member_of union v) p i
members-below n union st places wholes _ p i = failed n st fault.Kind p

controls-below : (n : ℕ) (modes : List Shape) (texts : List RoutineEntrance) (d : Does) (st : State) → StateBelow n st → StateBelow n (controls modes texts d st)
controls-below n modes texts (does.Enter slots) st p = enters-below n st slots st.chain (p.chain, p.items) p.chain
controls-below n modes texts (does.Leave kept) st p = leaves-below n st kept st.chain (p.chain, p.items) p.chain
controls-below n modes texts (does.Call count gives) st p = calls-below n texts st gives (pop_values (suc count) st.stack.items []) (p.chain, p.items) (popped-below n (suc count) st.stack.items [] p.items)
controls-below n modes texts does.Return st p = returns-below n st st.stack.items (p.chain, p.items) p.items
controls-below n modes texts (does.Jump to) st p = to-place n st to st.stack.items (p.chain, p.items) p.items
controls-below n modes texts (does.Goto to frames height gives) st p =
    jumps-below n st to (back frames st.chain) (cut height st.stack.items) (p.chain, p.items) (back-below n frames st.chain p.chain) (cut-below n height st.stack.items p.items)
controls-below n modes texts (does.Unless to) st p = unless-below n st to st.stack.items (p.chain, p.items) p.items
controls-below n modes texts (does.Case places) st p = cases-below n st places st.stack.items (p.chain, p.items) p.items
controls-below n modes texts (does.Member mode places wholes) st p = members-below n (shape_at modes mode) st places wholes st.stack.items (p.chain, p.items) p.items
controls-below n modes texts does.Counter st p = counts-below n st st.stack.items (p.chain, p.items) p.items
controls-below n modes texts does.Index st p = indexes-below n st (top_counter st.stack.items) (p.chain, p.items)
controls-below n modes texts (does.Step to) st p = steps-below n st to (top_counter st.stack.items) (p.chain, p.items)
controls-below n modes texts does.Turn st p = record { chain = p.chain; items = p.items; stance = tt }
controls-below n modes texts (does.Advance to) st p = advances-below n st to st.stack.items (p.chain, p.items) p.items
controls-below n modes texts does.Forget st p = forgets-below n st st.stack.items (p.chain, p.items) p.items
controls-below n modes texts (does.Fork entrances) st p = record { chain = p.chain; items = p.items; stance = refl }
controls-below n modes texts does.Close st p = record { chain = p.chain; items = p.items; stance = tt }
controls-below n modes texts _ st p = p

exec-below : (n : ℕ) (code : Code) (d : Does) (st : State) → StateBelow n st → StateBelow n (exec code d st)
exec-below n code d st p = by_operation (operation_of d)
  where
    by_operation : (o : Option Operation) → StateBelow n (option_map_or (λ op. operates code.modes st op (takes d)) o (controls code.modes code.texts d st))
    by_operation None = controls-below n code.modes code.texts d st p
    by_operation (Some op) = operates-below n code.modes st op (takes d) (p.chain, p.items)

does_one-below : (n : ℕ) (code : Code) (o : Option Does) (st : State) → StateBelow n st → StateBelow n (does_one code o st)
does_one-below n code None st p = failed n st fault.Kind (p.chain, p.items)
does_one-below n code (Some d) st p = exec-below n code d st p

silently-below : (n : ℕ) (code : Code) (m : Stance) (st : State) → StateBelow n st → IfSome (silently code m st) (StateBelow n)
silently-below n code Idle st p = test (at_end (does_at code.list st.at))
  where
    test : (b : Bool) → IfSome (if b then None else Some (does_one code (does_at code.list st.at) st)) (StateBelow n)
    test true = tt
    test false = does_one-below n code (does_at code.list st.at) st p
silently-below n code (Asking w wait) st p = tt
silently-below n code (Failed why) st p = tt
silently-below n code (Waits first count) st p = tt
silently-below n code Closed st p = tt

settle_in-below : (n k : ℕ) (code : Code) (st : State) → StateBelow n st → StateBelow n (settle_in k code st)
settle_in-below n zero code st p = late (next_state code st)
  where
    late : (o : Option State) → StateBelow n (option_map_or (λ (next : State). fails st fault.Kind) o st)
    late None = p
    late (Some next) = failed n st fault.Kind (p.chain, p.items)
settle_in-below n (suc k) code st p = on_from (next_state code st) (silently-below n code st.stance st p) (settle_in-below n k code)
  where
    on_from : (o : Option State) → IfSome o (StateBelow n) → ((next : State) → StateBelow n next → StateBelow n (settle_in k code next)) → StateBelow n (option_map_or (settle_in k code) o st)
    on_from None q more = p
    on_from (Some next) q more = more next q

pub settle-below : (n : ℕ) (code : Code) (st : State) → StateBelow n st → StateBelow n (settle code st)
unfolding settle
settle-below n code st p = settle_in-below n (length code.list * (1 + callers st.stack.items)) code st p

told_by-below : (n : ℕ) (code : Code) (st : State) (wait : Waiting) (r : Reply) → Stands n st → ReplyBelow n r → StateBelow n (told_by code st wait r)
told_by-below n code st (waiting.Operation go) r p q = follows-below n st (leaves_at code st.at) st.stack.items (resumed code.modes go r) p p.1 (resumed-below n code.modes go r)
told_by-below n code st waiting.Frame (reply.Frame []) p q = failed n st fault.Kind p
told_by-below n code st waiting.Frame (reply.Frame (e ∷ about)) p q = record { chain = (q.0, p.0); items = p.1; stance = tt }
told_by-below n code st waiting.Turn reply.Go p q = record { chain = p.0; items = p.1; stance = tt }
told_by-below n code st (waiting.Jump to) reply.Go p q = record { chain = p.0; items = p.1; stance = tt }
told_by-below n code st (waiting.Called r ps) reply.Go p q = enters_body-below n st r ps st.chain p p.0
told_by-below n code st (waiting.Entered text ps) (reply.Frame told) p q =
    binds-below n code.texts (record st { stack = stack_of (item.Caller (record { to = suc st.at; chain = st.chain }) ∷ st.stack.items); chain = told; stance = Idle }) text ps.slot (reverse ps.left) told
    (q, p)
told_by-below n code st (waiting.Bound text ps) reply.Go p q = binds-below n code.texts st text ps.slot (reverse ps.left) st.chain p
told_by-below n code st (waiting.Fork count) (reply.Base first) p q = record { chain = p.0; items = p.1; stance = tt }
told_by-below n code st waiting.Close reply.Go p q = record { chain = p.0; items = p.1; stance = tt }
told_by-below n code st (waiting.Units first count) reply.Go p q = record { chain = p.0; items = p.1; stance = tt }
told_by-below n code st _ _ p q = failed n st fault.Kind p

pub replied-below : (n : ℕ) (code : Code) (st : State) (r : Reply) → StateBelow n st → ReplyBelow n r → StateBelow n (replied code st r)
replied-below n code st r p q = told st.stance p.stance
  where
    told : (m : Stance) → StanceBelow n m → StateBelow n (replied_in m code st r)
    told Idle h = p
    told (Failed why) h = p
    told (Asking w wait) h = told_by-below n code st wait r (p.chain, p.items) q
    told (Waits first count) h = told_by-below n code st (waiting.Units first count) r (p.chain, p.items) q
    told Closed h = p

-- ---- more frames leave more room

pub chain-more : (m n : ℕ) (chain : List Environ) → m ≤ n → ChainBelow m chain → ChainBelow n chain
chain-more m n [] h p = tt
chain-more m n (e ∷ chain) h p = (omega (arith, p.0), chain-more m n chain h p.1)

items-more : (m n : ℕ) (items : List Item) → m ≤ n → ItemsBelow m items → ItemsBelow n items
items-more m n [] h p = tt
items-more m n (item.Value v ∷ items) h p = items-more m n items h p
items-more m n (item.Counter c ∷ items) h p = items-more m n items h p
items-more m n (item.Caller c ∷ items) h p = (chain-more m n c.chain h p.0, items-more m n items h p.1)

pub has_room-below : (n : ℕ) (chain : List Environ) → n < 2 ^ 32 → ChainBelow n chain → IsTrue (has_room chain)
has_room-below n [] h p = refl
has_room-below n (e ∷ chain) h p = rw (lt-ltb e.scope (2 ^ 32 - 1) (omega (arith, p.0))) (has_room-below n chain h p.1)

pub brings_room-below : (n : ℕ) (r : Reply) → n < 2 ^ 32 → ReplyBelow n r → IsTrue (brings_room r)
brings_room-below n (reply.Frame chain) h p = has_room-below n chain h p
brings_room-below n _ h p = refl

ask-more : (m n : ℕ) (w : Want) (wait : Waiting) → m ≤ n → AskBelow m w wait → AskBelow n w wait
ask-more m n (want.Enter outer scope slots) wait h p = (omega (arith, h, p.0), p.1)
ask-more m n (want.Fork entrances) wait h p = p
ask-more m n _ wait h p = p

stance-more : (m n : ℕ) (x : Stance) → m ≤ n → StanceBelow m x → StanceBelow n x
stance-more m n (Asking w wait) h p = ask-more m n w wait h p
stance-more m n Idle h p = tt
stance-more m n (Failed why) h p = tt
stance-more m n (Waits first count) h p = tt
stance-more m n Closed h p = tt

pub state-more : (m n : ℕ) (st : State) → m ≤ n → StateBelow m st → StateBelow n st
state-more m n st h p = record { chain = chain-more m n st.chain h p.chain; items = items-more m n st.stack.items h p.items; stance = stance-more m n st.stance h p.stance }
