-- The rows of the acts, where what they speak of is there.
use Rattle.std.proofs.Common.{◌≡◌, ℕ, ℤ, ◌+◌, ◌<◌, ◌≤◌, Bool, true, false, [], ◌∷◌, ◌++◌, length, refl, ap, sym, ◌∙◌}
use Rattle.std.specs.Prelude.{None, Some, pos, ◌+ℤ◌, ◌-ℤ◌, slice_get, replicate, int_lt, if◌then◌else◌}
use Rattle.std.specs.declared.option.Option.{Option}
use Rattle.std.specs.Option.{option_and_then, option_map_or}
use Rattle.std.proofs.lemmas.Bool.{le-ltb, lt-ltb}
use Rattle.std.proofs.lemmas.Option.{slice_get_within}
use Rattle.a68_store.specs.Acts.{has_to_wait}
use Rattle.a68_store.specs.Frames.{slot_in}
use Rattle.a68_acts.proofs.Waiting.{LowersNone, waits_where}
use Rattle.a68_acts.specs.Does.{Outcome, did, refuses, waits, refused, does, with_slot, count_held, count_in, with_count, raised, lowered, is_int}
use Rattle.a68_acts.specs.Store.{Frame, Store, chain_of, counted, slot_weight, most_counted}
use Rattle.a68_acts.specs.declared.want.Reply.TheVariants as reply
use Rattle.a68_acts.specs.declared.want.Want.{Want}
use Rattle.a68_acts.specs.declared.want.Want.TheVariants as want
use Rattle.a68_values.specs.Content.{Content}
use Rattle.a68_values.specs.declared.act.Act.TheVariants as act
use Rattle.a68_values.specs.declared.act.FaultKind.TheVariants as fault
use Rattle.a68_values.specs.declared.held.Held.{Held}
use Rattle.a68_values.specs.declared.held.Held.TheVariants as held
use Rattle.a68_values.specs.declared.plain.Plain.TheVariants as value

pub bind-did : (store : Store) (f s : ℕ) (v : Content) (frame : Frame) (old : Option Content) → slice_get store.frames f ≡ Some frame
    → slice_get frame.slots s ≡ Some old → counted store + slot_weight (Some v) ≤ most_counted + slot_weight old
    → does (want.Bind f s v) store ≡ did (act.Bind f s) reply.Go (with_slot store f s frame v)
unfolding does
bind-did store f s v frame old there here fits = rw (there, here, le-ltb _ _ fits) refl

pub bind-refused : (store : Store) (f s : ℕ) (v : Content) (frame : Frame) (old : Option Content) → slice_get store.frames f ≡ Some frame
    → slice_get frame.slots s ≡ Some old → most_counted + slot_weight old < counted store + slot_weight (Some v)
    → does (want.Bind f s v) store ≡ refuses fault.Cells
unfolding does
bind-refused store f s v frame old there here full = rw (there, here, lt-ltb _ _ full) refl

pub enter-did : (store : Store) (outer scope n : ℕ) (frame : Frame) → slice_get store.frames outer ≡ Some frame → counted store + n ≤ most_counted
    → does (want.Enter outer scope n) store
    ≡ did (act.Enter (length store.frames)) (reply.Frame (chain_of (store.frames ++ record { outer = outer; scope = scope; slots = replicate n None } ∷ []) (length store.frames)))
    (record store { frames = store.frames ++ record { outer = outer; scope = scope; slots = replicate n None } ∷ [] })
unfolding does
enter-did store outer scope n frame there fits = rw (there, le-ltb _ _ fits) refl

pub enter-refused : (store : Store) (outer scope n : ℕ) (frame : Frame) → slice_get store.frames outer ≡ Some frame → most_counted < counted store + n
    → does (want.Enter outer scope n) store ≡ refuses fault.Cells
unfolding does
enter-refused store outer scope n frame there full = rw (there, lt-ltb _ _ full) refl

-- a slot that is there, and its frame
slot-found_in : (o : Option Frame) (s : ℕ) (slot : Option Content) → option_and_then (λ (frame : Frame). slice_get frame.slots s) o ≡ Some slot
    → (frame : Frame) × (o ≡ Some frame) × (slice_get frame.slots s ≡ Some slot)
slot-found_in None s slot e = cc
slot-found_in (Some frame) s slot e = (frame, refl, e)

pub slot-found : (store : Store) (f s : ℕ) (slot : Option Content) → slot_in store f s ≡ Some slot
    → (frame : Frame) × (slice_get store.frames f ≡ Some frame) × (slice_get frame.slots s ≡ Some slot)
slot-found store f s slot e = slot-found_in (slice_get store.frames f) s slot e

-- ---- semaphores

-- a semaphore that has a count has a cell
count-there_in : (store : Store) (c : ℕ) (i : ℤ) (o : Option Held) → slice_get store.cells c ≡ o → Some i ≡ option_and_then count_held o → c < length store.cells
count-there_in store c i None there e = absurd (cc)
count-there_in store c i (Some held) there e = slice_get_within store.cells c held there

pub count-there : (store : Store) (c : ℕ) (i : ℤ) → Some i ≡ count_in store c → c < length store.cells
count-there store c i e = count-there_in store c i (slice_get store.cells c) refl e

-- the store that an Assign of a count leaves
given-count_in : (store after : Store) (c : ℕ) (i : ℤ) (o : Option Held)
    → option_map_or (λ (old : Held). did (act.Assign c) reply.Go (with_count store c i)) o (refuses fault.Kind) ≡ did (act.Assign c) reply.Go after → after ≡ with_count store c i
given-count_in store after c i None e = absurd (cc)
given-count_in store after c i (Some old) e = cc

pub given-count : (store after : Store) (c : ℕ) (i : ℤ) → does (want.Assign c (held.Plain (value.Int i))) store ≡ did (act.Assign c) reply.Go after → after ≡ with_count store c i
unfolding does
given-count store after c i e = given-count_in store after c i (slice_get store.cells c) e

-- the rows of Up and Down, where there is a count
pub up-is : (store : Store) (c : ℕ) (i : ℤ) → Some i ≡ count_in store c → does (want.Up c) store ≡ raised store c i
unfolding does
up-is store c i e = ap (λ o. option_map_or (raised store c) o (refuses fault.Kind)) (sym e)

pub up-did : (store : Store) (c : ℕ) (i : ℤ) → Some i ≡ count_in store c → is_int (i +ℤ pos 1) ≡ true → does (want.Up c) store ≡ did (act.Up c) reply.Go (with_count store c (i +ℤ pos 1))
up-did store c i e fits = up-is store c i e ∙ ap (λ b. if b then did (act.Up c) reply.Go (with_count store c (i +ℤ pos 1)) else refuses fault.Overflow) fits

pub down-is : (store : Store) (c : ℕ) (i : ℤ) → Some i ≡ count_in store c → does (want.Down c) store ≡ lowered store c i
unfolding does
down-is store c i e = ap (λ o. option_map_or (lowered store c) o (refuses fault.Kind)) (sym e)

pub down-did : (store : Store) (c : ℕ) (i : ℤ) → Some i ≡ count_in store c → int_lt i (pos 1) ≡ false → does (want.Down c) store ≡ did (act.Down c) reply.Go (with_count store c (i -ℤ pos 1))
down-did store c i e enough = down-is store c i e ∙ ap (λ b. if b then waits else did (act.Down c) reply.Go (with_count store c (i -ℤ pos 1))) enough

pub down-waits : (store : Store) (c : ℕ) (i : ℤ) → Some i ≡ count_in store c → int_lt i (pos 1) ≡ true → does (want.Down c) store ≡ waits
down-waits store c i e few = down-is store c i e ∙ ap (λ b. if b then waits else did (act.Down c) reply.Go (with_count store c (i -ℤ pos 1))) few

-- a Down of a count meets no fault, and waits where the count is below 1
calm_by : (b : Bool) (after : Store) (c : ℕ) → refused (if b then waits else did (act.Down c) reply.Go after) ≡ None
calm_by true after c = refl
calm_by false after c = refl

pub down-calm : (store : Store) (c : ℕ) (i : ℤ) → Some i ≡ count_in store c → refused (does (want.Down c) store) ≡ None
down-calm store c i e = ap refused (down-is store c i e) ∙ calm_by (int_lt i (pos 1)) (with_count store c (i -ℤ pos 1)) c

waiting_by : (b : Bool) (after : Store) (c : ℕ) → has_to_wait (if b then waits else did (act.Down c) reply.Go after) ≡ b
waiting_by true after c = refl
waiting_by false after c = refl

pub down-waiting : (store : Store) (c : ℕ) (i : ℤ) → Some i ≡ count_in store c → has_to_wait (does (want.Down c) store) ≡ int_lt i (pos 1)
down-waiting store c i e = ap has_to_wait (down-is store c i e) ∙ waiting_by (int_lt i (pos 1)) (with_count store c (i -ℤ pos 1)) c

-- no other act waits
lowers : (w : Want) (store : Store) → LowersNone w store → ((c : ℕ) → w ≡ want.Down c → ⊥) → ⊥
lowers (want.Down c) store low no_down = no_down c refl
lowers _ store low no_down = low

goes_on : (w : Want) (store : Store) (o : Outcome) → does w store ≡ o → ((c : ℕ) → w ≡ want.Down c → ⊥) → has_to_wait o ≡ false
goes_on w store (did act reply after) e no_down = refl
goes_on w store (refuses why) e no_down = refl
goes_on w store waits e no_down = absurd (lowers w store (waits_where w store e) no_down)

pub never-waits : (w : Want) (store : Store) → ((c : ℕ) → w ≡ want.Down c → ⊥) → has_to_wait (does w store) ≡ false
never-waits w store no_down = goes_on w store (does w store) refl no_down
