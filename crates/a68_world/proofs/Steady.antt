-- What is known of the store and the strands behind every journal.
use Rattle.std.proofs.Common.{◌≡◌, ◌∙◌, ◌⊎◌, inl, inr, ℕ, zero, suc, ◌+◌, ◌<◌, ◌≤◌, ℤ, pos, Bool, true, false, List, [], ◌∷◌, ◌++◌, length, length-append, refl, ap, sym, subst, arith, true≢false, ltb-false}
use Rattle.std.specs.Prelude.{⊤, None, Some, slice_get, slice_set, replicate, nat_lt, int_lt, ◌+ℤ◌, if◌then◌else◌}
use Rattle.std.specs.Option.{option_and_then, option_map_or}
use Rattle.std.proofs.Math.ListN.{length-set}
use Rattle.std.proofs.lemmas.Bool.{false≢true}
use Rattle.std.specs.declared.option.Option.{Option}
use Rattle.a68_acts.specs.Does.{Outcome, did, refuses, waits, does, entered, bound, looked, made, within_count, is_closed, cells_from, count_in, raised, lowered, is_int}
use Rattle.a68_acts.specs.Store.{Store, Frame, standard_frame, chain_of, most_counted, most_printed, most_strands, counted, slot_weight}
use Rattle.a68_acts.specs.declared.want.Reply.{Reply}
use Rattle.a68_acts.specs.declared.want.Reply.TheVariants as reply
use Rattle.a68_acts.specs.declared.want.Want.{Want}
use Rattle.a68_acts.specs.declared.want.Want.TheVariants as want
use Rattle.a68_code.specs.declared.code.Code.{Code}
use Rattle.a68_layout.specs.declared.types.Plan.{Plan}
use Rattle.a68_exec.proofs.Alive.{active}
use Rattle.a68_exec.proofs.Settled.{settle_rests}
use Rattle.a68_strand.proofs.Waking.{IsCalm, calm_kept, begun_goes}
use Rattle.a68_instructions.specs.Machine.{State, beginning, settle, next_state, replied, replied_in, told_by}
use Rattle.a68_exec.specs.Runs.{World, Machine, IfNext, opening, acted, acts_in, after, woken, woken_in, all_closed, is_passive, begun, strands_after}
use Rattle.a68_instructions.specs.declared.ask.Stance.{Stance}
use Rattle.a68_instructions.specs.declared.ask.Stance.TheVariants.{Idle, Asking, Failed, Waits, Closed}
use Rattle.a68_instructions.specs.declared.ask.Waiting.{Waiting}
use Rattle.a68_values.specs.Content.{Content}
use Rattle.a68_values.specs.declared.act.Act.{Act}
use Rattle.a68_values.specs.declared.act.Act.TheVariants as act
use Rattle.a68_values.specs.declared.act.FaultKind.{FaultKind}
use Rattle.a68_values.specs.declared.act.FaultKind.TheVariants as fault
use Rattle.a68_values.specs.declared.act.Entry.{Entry}
use Rattle.a68_values.specs.declared.held.Held.{Held}
use Rattle.a68_world.specs.Leases.{waits_by}
use Rattle.a68_world.specs.Run.{Run, IsSoundRun, world}
use Rattle.a68_world.specs.Scopes.{AskBelow, WaitsNot, FramesBelow, WantBelow, StanceBelow, StateBelow}
use Rattle.a68_instructions.specs.declared.ask.Waiting.TheVariants as waiting
use Rattle.a68_world.proofs.Entering.{RoomAfter, RoomBehind, does-room}
use Rattle.a68_world.proofs.Places.{get_mapped, length_map, parted, set_parted}
use Rattle.a68_world.proofs.ScopesKept.{settle-below, replied-below, state-more, want-of}
use Rattle.a68_world.proofs.Awaited.{AreAwaited, IsAwaited, awaited_after, fork_reply, fork_waits}
use Rattle.a68_world.proofs.Telling.{waits_behind}

pub record Steady (code : Code) (count : ℕ) (w : World) : Type 0 where
  -- an event makes one frame at most, and scopes are below the number of frames
  pub few : length w.store.frames ≤ count + 1
  pub frames : FramesBelow (length w.store.frames) w.store.frames
  pub below : (k : ℕ) (st : State) → slice_get w.strands k ≡ Some st → StateBelow (length w.store.frames) st
  pub calm : IsCalm code w.strands
  -- each that has not closed is awaited
  pub kin : AreAwaited w.strands
  -- the store counts the strands
  pub many : w.store.strands ≡ length w.strands
  pub most : w.store.strands ≤ most_strands

-- ---- the next act

-- a strand has asked for an act, which is done
pub record Acted (code : Code) (w : World) (n : ℕ) (act : Act) (behind : World) : Type 0 where
  pub st : State
  pub want : Want
  pub wait : Waiting
  pub reply : Reply
  pub store : Store
  pub there : slice_get w.strands n ≡ Some st
  pub asks : st.stance ≡ Asking want wait
  pub does_it : does want w.store ≡ did act reply store
  pub is : behind ≡ record { store = store; strands = strands_after code w.strands n (settle code (replied code st reply)) (begun code st want) }

acted-by : (code : Code) (w : World) (n : ℕ) (act : Act) (behind : World) (st : State) (want : Want) (wait : Waiting) (o : Outcome) → slice_get w.strands n ≡ Some st
    → st.stance ≡ Asking want wait → does want w.store ≡ o → after code w n st want o ≡ Some (act, behind) → Acted code w n act behind
acted-by code w n act behind st want wait (did done reply store) there asks is e =
    let pair : (done, record { store = store; strands = strands_after code w.strands n (settle code (replied code st reply)) (begun code st want) }) ≡ (act, behind) = cc in
    record {
      st = st;
      want = want;
      wait = wait;
      reply = reply;
      store = store;
      there = there;
      asks = asks;
      does_it = is ∙ ap (λ (a : Act). did a reply store) (ap (λ (p : Act × World). p.0) pair);
      is = sym (ap (λ (p : Act × World). p.1) pair);
    }
acted-by code w n act behind st want wait (refuses why) there asks is e = absurd (cc)
acted-by code w n act behind st want wait waits there asks is e = absurd (cc)

acted-in : (code : Code) (w : World) (n : ℕ) (act : Act) (behind : World) (st : State) (m : Stance) → slice_get w.strands n ≡ Some st → st.stance ≡ m
    → acts_in m code w n st ≡ Some (act, behind) → Acted code w n act behind
acted-in code w n act behind st Idle there is e = absurd (cc)
acted-in code w n act behind st (Asking want wait) there is e = acted-by code w n act behind st want wait (does want w.store) there is refl e
acted-in code w n act behind st (Failed why) there is e = absurd (cc)
acted-in code w n act behind st (Waits first count) there is e = absurd (cc)
acted-in code w n act behind st Closed there is e = absurd (cc)

acted-at : (code : Code) (w : World) (n : ℕ) (act : Act) (behind : World) (o : Option State) → slice_get w.strands n ≡ o
    → option_and_then (λ (st : State). acts_in st.stance code w n st) o ≡ Some (act, behind) → Acted code w n act behind
acted-at code w n act behind None there e = absurd (cc)
acted-at code w n act behind (Some st) there e = acted-in code w n act behind st st.stance there refl e

pub acted_is : (code : Code) (w : World) (n : ℕ) (act : Act) (behind : World) → acted code w n ≡ Some (act, behind) → Acted code w n act behind
acted_is code w n act behind e = acted-at code w n act behind (slice_get w.strands n) refl e

-- ---- how many strands the store counts

abbrev units : Want → ℕ
units (want.Fork entrances) = length entrances
units _ = 0

length-begun : (code : Code) (st : State) (w : Want) → length (begun code st w) ≡ units w
length-begun code st (want.Fork entrances) = length_map (λ (at : ℕ). settle code (beginning at st.chain)) entrances
length-begun code st _ = refl

abbrev Counted : Store → ℕ → Outcome → Type 0
Counted s n (did act told t) = (t.strands ≡ s.strands + n) × (s.strands ≤ most_strands → t.strands ≤ most_strands)
Counted s n _ = ⊤

same-count : (s t : Store) (act : Act) (told : Reply) → t.strands ≡ s.strands → Counted s 0 (did act told t)
same-count s t act told e = (omega (arith, e), λ h. omega (arith, e, h))

within-counted : (s : Store) (k : ℕ) (o : Outcome) → Counted s 0 o → Counted s 0 (within_count k o)
within-counted s k o p = test (nat_lt most_counted k)
  where
    test : (b : Bool) → Counted s 0 (if b then refuses fault.Cells else o)
    test true = tt
    test false = p

if-counted : (s : Store) (b : Bool) (o p : Outcome) → Counted s 0 o → Counted s 0 p → Counted s 0 (if b then o else p)
if-counted s true o p x y = x
if-counted s false o p x y = y

or-counted : {T : Type 0} (s : Store) (f : T → Outcome) (o : Option T) (why : FaultKind) → ((x : T) → Counted s 0 (f x)) → Counted s 0 (option_map_or f o (refuses why))
or-counted s f None why p = tt
or-counted s f (Some x) why p = p x

bound-counted : (s : Store) (f i : ℕ) (frame : Frame) (v : Content) (old : Option (Option Content)) → Counted s 0 (bound s f i frame v old)
bound-counted s f i frame v None = tt
bound-counted s f i frame v (Some old) = test (nat_lt (most_counted + slot_weight old) (counted s + slot_weight (Some v)))
  where
    test : (b : Bool) → Counted s 0 (if b then refuses fault.Cells else did (act.Bind f i) reply.Go (record s { frames = slice_set s.frames f (record frame { slots = slice_set frame.slots i (Some v) }) }))
    test true = tt
    test false = (omega arith, λ h. h)

looked-counted : (s : Store) (f i : ℕ) (slot : Option (Option Content)) → Counted s 0 (looked s f i slot)
looked-counted s f i None = tt
looked-counted s f i (Some None) = tt
looked-counted s f i (Some (Some v)) = (omega arith, λ h. h)

entered-counted : (s : Store) (outer scope slots : ℕ) → Counted s 0 (entered outer scope slots s)
entered-counted s outer scope slots =
    let frames : List Frame = s.frames ++ record { outer = outer; scope = scope; slots = replicate slots None } ∷ [] in
    within-counted s (counted s + slots) (did (act.Enter (length s.frames)) (reply.Frame (chain_of frames (length s.frames))) (record s { frames = frames })) (omega arith, λ h. h)

made-counted : (s : Store) (plan : Plan) → Counted s 0 (made s plan)
made-counted s plan =
    within-counted s (counted s + length plan.cells)
    (did (act.Make (length s.cells) (length plan.cells)) (reply.Base (length s.cells)) (record s { cells = s.cells ++ cells_from (length s.cells) plan })) (omega arith, λ h. h)

raised-counted : (s : Store) (c : ℕ) (i : ℤ) → Counted s 0 (raised s c i)
raised-counted s c i = if-counted s (is_int (i +ℤ pos 1)) _ _ (omega arith, λ h. h) tt

lowered-counted : (s : Store) (c : ℕ) (i : ℤ) → Counted s 0 (lowered s c i)
lowered-counted s c i = if-counted s (int_lt i (pos 1)) _ _ tt (omega arith, λ h. h)

forked-counted : (s : Store) (n : ℕ) (b : Bool) → nat_lt most_strands (s.strands + n) ≡ b
    → Counted s n (if b then refuses fault.Strands else did (act.Fork s.strands n) (reply.Base s.strands) (record s { strands = s.strands + n }))
forked-counted s n true e = tt
forked-counted s n false e = (refl, λ h. ltb-false most_strands (s.strands + n) e)

does-counted : (w : Want) (s : Store) → Counted s (units w) (does w s)
unfolding does
does-counted (want.Enter outer scope slots) s = or-counted s (λ (frame : Frame). entered outer scope slots s) (slice_get s.frames outer) fault.Kind (λ frame. entered-counted s outer scope slots)
does-counted (want.Bind f i v) s = or-counted s (λ (frame : Frame). bound s f i frame v (slice_get frame.slots i)) (slice_get s.frames f) fault.Kind (λ frame. bound-counted s f i frame v (slice_get frame.slots i))
does-counted (want.Look f i) s = or-counted s (λ (frame : Frame). looked s f i (slice_get frame.slots i)) (slice_get s.frames f) fault.Kind (λ frame. looked-counted s f i (slice_get frame.slots i))
does-counted (want.Make plan) s = if-counted s (is_closed plan) (made s plan) (refuses fault.Kind) (made-counted s plan) tt
does-counted (want.Fetch c) s = or-counted s (λ (held : Held). did (act.Fetch c) (reply.Held held) s) (slice_get s.cells c) fault.Kind (λ held. (omega arith, λ h. h))
does-counted (want.Assign c what) s = or-counted s (λ (old : Held). did (act.Assign c) reply.Go (record s { cells = slice_set s.cells c what })) (slice_get s.cells c) fault.Kind (λ old. (omega arith, λ h. h))
does-counted (want.Print text) s = if-counted s (nat_lt most_printed (length s.text + length text)) _ _ tt (omega arith, λ h. h)
does-counted want.Turn s = (omega arith, λ h. h)
does-counted (want.Up c) s = or-counted s (raised s c) (count_in s c) fault.Kind (raised-counted s c)
does-counted (want.Down c) s = or-counted s (lowered s c) (count_in s c) fault.Kind (lowered-counted s c)
does-counted (want.Fork entrances) s = forked-counted s (length entrances) (nat_lt most_strands (s.strands + length entrances)) refl
does-counted want.Close s = (omega arith, λ h. h)

pub counted_behind : (w : Want) (s : Store) (act : Act) (told : Reply) (t : Store) → does w s ≡ did act told t → Counted s (units w) (did act told t)
counted_behind w s act told t e = subst (λ (o : Outcome). Counted s (units w) o) e (does-counted w s)

-- ---- scopes

woken_in-below : (n : ℕ) (all : List State) (st : State) (m : Stance) → StateBelow n st → StateBelow n (woken_in all st m)
woken_in-below n all st (Waits first count) p = test (all_closed all first count)
  where
    test : (b : Bool) → StateBelow n (if b then record st { at = suc st.at; stance = Idle } else st)
    test true = record { chain = p.chain; items = p.items; stance = tt }
    test false = p
woken_in-below n all st _ p = p

woken-below : (n : ℕ) (code : Code) (all : List State) (st : State) → StateBelow n st → StateBelow n (woken code all st)
woken-below n code all st p = settle-below n code (woken_in all st st.stance) (woken_in-below n all st st.stance p)

begun-below : (n : ℕ) (code : Code) (st : State) (w : Want) (j : ℕ) (x : State) → StateBelow n st → slice_get (begun code st w) j ≡ Some x → StateBelow n x
begun-below n code st (want.Fork entrances) j x p e =
    let at = get_mapped (λ (at : ℕ). settle code (beginning at st.chain)) entrances j x e in
    subst (λ (y : State). StateBelow n y) at.2 (settle-below n code (beginning at.0 st.chain) (record { chain = p.chain; items = tt; stance = tt }))
begun-below n code st _ j x p e = absurd (cc)

-- ---- an act

pub room_behind : (code : Code) (count : ℕ) (w : World) (n : ℕ) (act : Act) (behind : World) (a : Acted code w n act behind) → Steady code count w
    → RoomAfter (length w.store.frames) a.reply a.store
room_behind code count w n act behind a s =
    let st : StateBelow (length w.store.frames) a.st = s.below n a.st a.there in
    let want : WantBelow (length w.store.frames) a.want = want-of (length w.store.frames) a.want a.wait (subst (λ (m : Stance). StanceBelow (length w.store.frames) m) a.asks st.stance) in
    subst (λ (o : Outcome). RoomBehind (length w.store.frames) o) a.does_it (does-room a.want w.store s.frames want)

-- the strands that an act makes are units for which the one waits that made them
fork-at : (code : Code) (st : State) (v : Want) (i : ℕ) (x : State) → slice_get (begun code st v) i ≡ Some x → (es : List ℕ) × (v ≡ want.Fork es)
fork-at code st (want.Fork es) i x e = (es, refl)
fork-at code st _ i x e = absurd (cc)

forks : (code : Code) (count : ℕ) (w : World) (n : ℕ) (done : Act) (behind : World) (a : Acted code w n done behind) → Steady code count w
    → (i : ℕ) (x : State) → slice_get (begun code a.st a.want) i ≡ Some x → (settle code (replied code a.st a.reply)).stance ≡ Waits (length w.strands) (length (begun code a.st a.want))
forks code count w n done behind a s i x at =
    let f = fork-at code a.st a.want i x at in
    let es : List ℕ = f.0 in
    let below : AskBelow (length w.store.frames) a.want a.wait = subst (λ (m : Stance). StanceBelow (length w.store.frames) m) a.asks (s.below n a.st a.there).stance in
    let pair : a.wait ≡ waiting.Fork (length es) = subst (λ (v : Want). AskBelow (length w.store.frames) v a.wait) f.1 below in
    let told : a.reply ≡ reply.Base w.store.strands = fork_reply es w.store a.store done a.reply (ap (λ v. does v w.store) (sym f.1) ∙ a.does_it) in
    let long : length (begun code a.st a.want) ≡ length es = ap (λ v. length (begun code a.st v)) f.1 ∙ length-begun code a.st (want.Fork es) in
    fork_waits code a.st es a.wait a.reply w.store.strands (a.asks ∙ ap (λ v. Asking v a.wait) f.1) pair told ∙ ap (λ k. Waits k (length es)) s.many ∙ ap (Waits (length w.strands)) (sym long)

-- one that waits behind its act has made the units for which it waits
fork-wait : (wait : Waiting) (r : Reply) → waits_by wait r ≡ true → (k : ℕ) × (wait ≡ waiting.Fork k)
fork-wait (waiting.Fork k) r e = (k, refl)
fork-wait _ r e = absurd (false≢true e)

fork-want : (n : ℕ) (v : Want) (wait : Waiting) (k : ℕ) → AskBelow n v wait → wait ≡ waiting.Fork k → (es : List ℕ) × (v ≡ want.Fork es)
fork-want n (want.Fork es) wait k below e = (es, refl)
fork-want n (want.Enter outer scope slots) wait k below e = absurd (subst (λ (x : Waiting). WaitsNot x) e below.1)
fork-want n _ wait k below e = absurd (subst (λ (x : Waiting). WaitsNot x) e below)

pub waits_for : (code : Code) (count : ℕ) (w : World) (n : ℕ) (st : State) (v : Want) (wait : Waiting) (done : Act) (told : Reply) (t : Store) → Steady code count w
    → slice_get w.strands n ≡ Some st → st.stance ≡ Asking v wait → does v w.store ≡ did done told t → (f c : ℕ) → (settle code (replied code st told)).stance ≡ Waits f c
    → (f ≡ length w.strands) × (c ≡ length (begun code st v))
waits_for code count w n st v wait done told t s there asks does_it f c e =
    let below : AskBelow (length w.store.frames) v wait = subst (λ (m : Stance). StanceBelow (length w.store.frames) m) asks (s.below n st there).stance in
    let is : replied code st told ≡ told_by code st wait told = ap (λ (m : Stance). replied_in m code st told) asks in
    let told-waits : waits_by wait told ≡ true = waits_behind code st wait told f c (sym (ap (λ (x : State). (settle code x).stance) is) ∙ e) in
    let k = fork-wait wait told told-waits in
    let es = fork-want (length w.store.frames) v wait k.0 below k.1 in
    let pair : wait ≡ waiting.Fork (length es.0) = subst (λ (x : Want). AskBelow (length w.store.frames) x wait) es.1 below in
    let base : told ≡ reply.Base w.store.strands = fork_reply es.0 w.store t done told (ap (λ x. does x w.store) (sym es.1) ∙ does_it) in
    let waits : (settle code (replied code st told)).stance ≡ Waits w.store.strands (length es.0) = fork_waits code st es.0 wait told w.store.strands (asks ∙ ap (λ x. Asking x wait) es.1) pair base in
    let both : Waits f c ≡ Waits w.store.strands (length es.0) = sym e ∙ waits in
    let p : f ≡ w.store.strands = cc in
    let q : c ≡ length es.0 = cc in
    (p ∙ s.many, q ∙ sym (ap (λ x. length (begun code st x)) es.1 ∙ length-begun code st (want.Fork es.0)))

pub steady_more : (code : Code) (count : ℕ) (w : World) (n : ℕ) (act : Act) (behind : World) → Steady code count w → acted code w n ≡ Some (act, behind)
    → Steady code (suc count) behind
steady_more code count w n act behind s e =
    let a = acted_is code w n act behind e in
    let room = room_behind code count w n act behind a s in
    let next : State = settle code (replied code a.st a.reply) in
    let new : List State = begun code a.st a.want in
    let all : List State = slice_set w.strands n next ++ new in
    let m : ℕ = length a.store.frames in
    let counted = counted_behind a.want w.store act a.reply a.store a.does_it in
    let old : (k : ℕ) (st : State) → slice_get w.strands k ≡ Some st → StateBelow m st = λ k st there. state-more (length w.store.frames) m st room.least (s.below k st there) in
    let told : StateBelow m next = settle-below m code (replied code a.st a.reply) (replied-below m code a.st a.reply (old n a.st a.there) room.reply) in
    let each : (k : ℕ) (st : State) → slice_get all k ≡ Some st → StateBelow m st = λ k st there.
    elim (parted (slice_set w.strands n next) new k st there) [
      | inl front ↦ elim (set_parted w.strands n k next st front) [
        | inl here_ ↦ subst (λ (x : State). StateBelow m x) (sym here_.1) told
        | inr other ↦ old k st other.1
      ]
      | inr born ↦ begun-below m code a.st a.want born.0 st (old n a.st a.there) born.2
    ] in
    let rests : (k : ℕ) (st : State) → slice_get all k ≡ Some st → next_state code st ≡ None = λ k st there.
    elim (parted (slice_set w.strands n next) new k st there) [
      | inl front ↦ elim (set_parted w.strands n k next st front) [
        | inl here_ ↦ ap (next_state code) here_.1 ∙ settle_rests code (replied code a.st a.reply)
        | inr other ↦ s.calm.rests k st other.1
      ]
      | inr born ↦ (begun_goes code a.st a.want born.0 st born.2).0
    ] in
    rw a.is (record {
      few = omega (arith, room.most, s.few);
      frames = room.below;
      below = λ k st there. let x = get_mapped (woken code all) all k st there in subst (λ (y : State). StateBelow m y) x.2 (woken-below m code all x.0 (each k x.0 x.1));
      calm = calm_kept code w.strands new n next s.calm (settle_rests code (replied code a.st a.reply)) (λ j st there. (begun_goes code a.st a.want j st there).0);
      kin = awaited_after code w.strands new n next a.st a.want a.wait rests s.kin a.there a.asks (forks code count w n act behind a s);
      many = counted.0 ∙ omega (arith, s.many, length_map (woken code all) all, length-append (slice_set w.strands n next) new, length-set w.strands n next, length-begun code a.st a.want);
      most = counted.1 s.most;
    })

-- ---- journals

opening-frames : FramesBelow 1 (standard_frame ∷ [])
opening-frames zero frame e = let same : frame ≡ standard_frame = cc in omega (arith, ap (λ (x : Frame). x.scope) same)
opening-frames (suc f) frame e = absurd (cc)

pub steady_opening : (code : Code) → Steady code 0 (opening code)
steady_opening code =
    let first : State = settle code (beginning 0 (record { frame = 0; scope = 0 } ∷ [])) in
    record {
      few = omega arith;
      frames = opening-frames;
      below = λ k st e. one k st e;
      calm = record { rests = λ k st e. settled k st e; due = λ k st f c e w. absurd (waits_not k st f c e w) };
      kin = λ k st e open_. only k st e;
      many = refl;
      most = omega arith;
    }
  where
    begin : State
    begin = beginning 0 (record { frame = 0; scope = 0 } ∷ [])

    only : (k : ℕ) (st : State) → slice_get (settle code begin ∷ []) k ≡ Some st → (k ≡ 0) ⊎ IsAwaited (settle code begin ∷ []) k
    only zero st e = inl refl
    only (suc k) st e = absurd (cc)

    one : (k : ℕ) (st : State) → slice_get (settle code begin ∷ []) k ≡ Some st → StateBelow 1 st
    one zero st e = let same : settle code begin ≡ st = cc in subst (λ (x : State). StateBelow 1 x) same (settle-below 1 code begin (record { chain = (omega arith, tt); items = tt; stance = tt }))
    one (suc k) st e = absurd (cc)

    settled : (k : ℕ) (st : State) → slice_get (settle code begin ∷ []) k ≡ Some st → next_state code st ≡ None
    settled zero st e = let same : settle code begin ≡ st = cc in subst (λ (x : State). next_state code x ≡ None) same (settle_rests code begin)
    settled (suc k) st e = absurd (cc)

    waits_not : (k : ℕ) (st : State) (f c : ℕ) → slice_get (settle code begin ∷ []) k ≡ Some st → st.stance ≡ Waits f c → ⊥
    waits_not zero st f c e w =
        let same : settle code begin ≡ st = cc in
        true≢false (sym (ap is_passive (ap (λ (x : State). x.stance) same ∙ w)) ∙ active code begin refl)
    waits_not (suc k) st f c e w = absurd (cc)

steady-next : (code : Code) (count : ℕ) (w v : World) (n : ℕ) (act : Act) (es : List Entry) (o : Option (Act × World)) → acted code w n ≡ o → Steady code count w
    → ((b : World) → Steady code (suc count) b → Machine code b es v → Steady code (suc count + length es) v)
    → IfNext o act (λ b. Machine code b es v) → Steady code (suc count + length es) v
steady-next code count w v n act es None e s more runs = absurd runs
steady-next code count w v n act es (Some p) e s more runs = more p.1 (steady_more code count w n p.0 p.1 s e) runs.1

pub steady_goes : (code : Code) (count : ℕ) (w v : World) (es : List Entry) → Steady code count w → Machine code w es v → Steady code (count + length es) v
steady_goes code count w v [] s runs = subst (λ (k : ℕ). Steady code k v) (omega arith) (subst (λ (x : World). Steady code count x) runs s)
steady_goes code count w v (e ∷ es) s runs =
    subst (λ (k : ℕ). Steady code k v) (omega arith)
    (steady-next code count w v e.strand e.act es (acted code w e.strand) refl s (λ b t r. steady_goes code (suc count) b v es t r) runs)

pub steady_run : (run : Run) → IsSoundRun run → Steady run.code (length run.entries) (world run)
steady_run run r =
    subst (λ (k : ℕ). Steady run.code k (world run)) (omega arith) (steady_goes run.code 0 (opening run.code) (world run) run.entries (steady_opening run.code) r.runs)

-- nor does a strand wait at the beginning
pub opening_waits : (code : Code) (k : ℕ) (st : State) (first count : ℕ) → slice_get (opening code).strands k ≡ Some st → st.stance ≡ Waits first count → k < 0
opening_waits code zero st f c e w =
    let begin : State = beginning 0 (record { frame = 0; scope = 0 } ∷ []) in
    let same : settle code begin ≡ st = cc in
    absurd (true≢false (sym (ap is_passive (ap (λ (x : State). x.stance) same ∙ w)) ∙ active code begin refl))
opening_waits code (suc k) st f c e w = absurd (cc)
