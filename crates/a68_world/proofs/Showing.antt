-- What the seats show of the world.
use Rattle.std.proofs.Common.{◌≡◌, ◌∙◌, inl, inr, ℕ, Bool, true, false, List, length, refl, ap, sym, subst, arith, true≢false}
use Rattle.std.proofs.lemmas.Bool.{false≢true}
use Rattle.std.specs.Prelude.{None, Some, IfSome, slice_get, if◌then◌else◌}
use Rattle.std.specs.Option.{option_and_then, option_map_or}
use Rattle.std.specs.declared.option.Option.{Option}
use Rattle.a68_acts.specs.Does.{Outcome, did, refuses, waits, refused, does}
use Rattle.a68_acts.specs.declared.want.Want.{Want}
use Rattle.a68_code.specs.declared.code.Code.{Code}
use Rattle.a68_store.specs.Acts.{has_to_wait}
use Rattle.a68_instructions.specs.Bodies.{stance_in}
use Rattle.a68_strand.specs.Cyclic.{HasTurn}
use Rattle.a68_strand.specs.Ends.{fault_in, fault_of, HasEnded, RunEndsWith, done, all_halted}
use Rattle.a68_instructions.specs.Machine.{State, asked, place_at}
use Rattle.a68_exec.specs.Runs.{World, after, acts_in, acted}
use Rattle.a68_strand.specs.Strands.{Shows, standing}
use Rattle.a68_instructions.specs.declared.ask.Ask.{Ask}
use Rattle.a68_instructions.specs.declared.ask.Ask.TheVariants as ask
use Rattle.a68_instructions.specs.declared.ask.Stance.{Stance}
use Rattle.a68_instructions.specs.declared.ask.Stance.TheVariants.{Idle, Asking, Failed, Waits, Closed}
use Rattle.a68_instructions.specs.declared.ask.Waiting.{Waiting}
use Rattle.a68_strand.specs.declared.strand.Strand.{Strand}
use Rattle.a68_values.specs.declared.act.Entry.{Entry}
use Rattle.a68_values.specs.declared.act.FaultKind.{FaultKind}
use Rattle.a68_values.specs.declared.kept.End.{End}
use Rattle.a68_values.specs.declared.kept.End.TheVariants as ends
use Rattle.a68_world.specs.Ending.{EndShown}
use Rattle.a68_world.specs.Run.{EndsWithoutTurn}
use Rattle.a68_world.specs.Seats.{Sits, SitsHere, AreSeated, AllSit, is_home, turn_shown, turn_in, turn_at, ended_shown, ended_in, ended_at}
use Rattle.a68_world.specs.declared.seat.Seat.{Seat}
use Rattle.a68_world.specs.declared.seat.Seat.TheVariants as seat
use Rattle.a68_world.proofs.Places.{is_there, is_within}

-- ---- what a strand shows

-- a strand that shows an act has asked for it
pub asking : (strand : Strand) (w : Want) → strand.about.ask ≡ ask.Want w → (x : Waiting) × ((standing strand).stance ≡ Asking w x)
asking strand w e = (strand.about.waiting, ap (λ (a : Ask). stance_in a strand.about.waiting) e)

pub shown : (code : Code) (strand : Strand) (m : Stance) → Shows code strand → (standing strand).stance ≡ m → strand.about.ask ≡ asked (place_at code.list strand.body.at) m
shown code strand m shows e = shows.ask ∙ ap (asked (place_at code.list strand.body.at)) e

-- ---- a strand by its number

pub next_act : (code : Code) (w : World) (n : ℕ) (st : State) (want : Want) (x : Waiting) → slice_get w.strands n ≡ Some st → st.stance ≡ Asking want x
    → acted code w n ≡ after code w n st want (does want w.store)
next_act code w n st want x there e = ap (option_and_then (λ (st : State). acts_in st.stance code w n st)) there ∙ ap (λ (m : Stance). acts_in m code w n st) e

pub next_fault : (w : World) (n : ℕ) (st : State) (m : Stance) → slice_get w.strands n ≡ Some st → st.stance ≡ m → fault_of w n ≡ fault_in m w.store
next_fault w n st m there e = ap (option_and_then (λ (st : State). fault_in st.stance w.store)) there ∙ ap (λ (m : Stance). fault_in m w.store) e

pub no_act : (code : Code) (w : World) (n : ℕ) (st : State) (m : Stance) → slice_get w.strands n ≡ Some st → st.stance ≡ m → acted code w n ≡ acts_in m code w n st
no_act code w n st m there e = ap (option_and_then (λ (st : State). acts_in st.stance code w n st)) there ∙ ap (λ (m : Stance). acts_in m code w n st) e

-- what an outcome says of a turn
abbrev TurnBy : (code : Code) (w : World) (n : ℕ) → Outcome → Type 0
TurnBy code w n o = ((if has_to_wait o then false else true) ≡ true → HasTurn code w n) × ((if has_to_wait o then false else true) ≡ false → HasTurn code w n → ⊥)

turn-by : (code : Code) (w : World) (n : ℕ) (st : State) (want : Want) (o : Outcome) → acted code w n ≡ after code w n st want o → fault_of w n ≡ refused o → TurnBy code w n o
turn-by code w n st want (did act told store) a f = (λ t. inl (λ none. let some = sym a ∙ none in absurd (cc)), λ t h. absurd (true≢false t))
turn-by code w n st want (refuses why) a f = (λ t. inr (λ none. let some = sym f ∙ none in absurd (cc)), λ t h. absurd (true≢false t))
turn-by code w n st want waits a f = (λ t. absurd (false≢true t), λ t h. elim h [ inl can ↦ can a | inr stands ↦ stands f ])

-- whether a strand that stands so shows a turn
abbrev TurnIn : (code : Code) (w : World) (n : ℕ) → Ask → Type 0
TurnIn code w n a = (turn_shown a w.store ≡ true → HasTurn code w n) × (turn_shown a w.store ≡ false → HasTurn code w n → ⊥)

pub no-turn : (code : Code) (w : World) (n : ℕ) → acted code w n ≡ None → fault_of w n ≡ None → HasTurn code w n → ⊥
no-turn code w n a f (inl can) = can a
no-turn code w n a f (inr stands) = stands f

pub turn-in : (code : Code) (w : World) (n : ℕ) (st : State) (m : Stance) (place : ℕ) → slice_get w.strands n ≡ Some st → st.stance ≡ m → TurnIn code w n (asked place m)
turn-in code w n st Idle place there e = (λ t. absurd (false≢true t), λ t h. no-turn code w n (no_act code w n st Idle there e) (next_fault w n st Idle there e) h)
turn-in code w n st (Asking want x) place there e = turn-by code w n st want (does want w.store) (next_act code w n st want x there e) (next_fault w n st (Asking want x) there e)
turn-in code w n st (Failed why) place there e = (λ t. inr (λ none. let some = sym (next_fault w n st (Failed why) there e) ∙ none in absurd (cc)), λ t h. absurd (true≢false t))
turn-in code w n st (Waits f c) place there e = (λ t. absurd (false≢true t), λ t h. no-turn code w n (no_act code w n st (Waits f c) there e) (next_fault w n st (Waits f c) there e) h)
turn-in code w n st Closed place there e = (λ t. absurd (false≢true t), λ t h. no-turn code w n (no_act code w n st Closed there e) (next_fault w n st Closed there e) h)

-- what the strand at a seat shows of its turn is so
pub turn_sits : (code : Code) (w : World) (n : ℕ) (strand : Strand) → Sits code w.strands n strand → TurnIn code w n strand.about.ask
turn_sits code w n strand sits =
    subst (λ (a : Ask). TurnIn code w n a) (sym sits.shows.ask) (turn-in code w n (standing strand) (standing strand).stance (place_at code.list strand.body.at) sits.there refl)

-- a strand that has a turn is there
pub turn_there : (code : Code) (w : World) (n : ℕ) → HasTurn code w n → (st : State) × (slice_get w.strands n ≡ Some st)
turn_there code w n h = by (slice_get w.strands n) refl
  where
    by : (o : Option State) → slice_get w.strands n ≡ o → (st : State) × (slice_get w.strands n ≡ Some st)
    by None e = absurd (no-turn code w n (ap (option_and_then (λ (st : State). acts_in st.stance code w n st)) e) (ap (option_and_then (λ (st : State). fault_in st.stance w.store)) e) h)
    by (Some st) e = (st, e)

-- ---- seats

-- each strand stands in the world
abbrev pub AllAtHome : List Seat → Type 0
AllAtHome seats = (k : ℕ) (x : Seat) → slice_get seats k ≡ Some x → is_home x ≡ true

-- where each strand stands in the world, one with a turn shows it
pub turn_seen : (code : Code) (w : World) (seats : List Seat) (n : ℕ) → AllSit code w.strands seats → AllAtHome seats → length seats ≡ length w.strands → HasTurn code w n → turn_at seats w.store n ≡ true
turn_seen code w seats n sit home long h =
    let st = turn_there code w n h in
    let x = is_there seats n (omega (arith, long, is_within w.strands n st.0 st.1)) in
    by x.0 x.1 (sit n x.0 x.1)
  where
    tested : (strand : Strand) (b : Bool) → turn_shown strand.about.ask w.store ≡ b → Sits code w.strands n strand → b ≡ true
    tested strand true e sits = refl
    tested strand false e sits = absurd ((turn_sits code w n strand sits).1 e h)

    by : (x : Seat) → slice_get seats n ≡ Some x → SitsHere code w.strands n x → turn_at seats w.store n ≡ true
    by (seat.Home strand) e sits = ap (λ o. option_map_or (turn_in w.store) o false) e ∙ tested strand (turn_shown strand.about.ask w.store) refl sits
    by (seat.Away spent closed) e sits = absurd (false≢true (home n (seat.Away spent closed) e))

-- a seat that shows a turn is that of a strand which has one
pub turn_at_is : (code : Code) (w : World) (seats : List Seat) (n : ℕ) → AreSeated code w.strands seats → turn_at seats w.store n ≡ true
    → (strand : Strand) × (slice_get seats n ≡ Some (seat.Home strand)) × HasTurn code w n
turn_at_is code w seats n seated t = by (slice_get seats n) refl t
  where
    by : (o : Option Seat) → slice_get seats n ≡ o → option_map_or (turn_in w.store) o false ≡ true → (strand : Strand) × (slice_get seats n ≡ Some (seat.Home strand)) × HasTurn code w n
    by None e t = absurd (false≢true t)
    by (Some (seat.Home strand)) e t = (strand, e, (turn_sits code w n strand (seated n (seat.Home strand) e)).0 t)
    by (Some (seat.Away spent closed)) e t = absurd (false≢true t)

-- a seat that shows none
pub turn_not : (code : Code) (w : World) (seats : List Seat) (n : ℕ) (strand : Strand) → AreSeated code w.strands seats → slice_get seats n ≡ Some (seat.Home strand)
    → turn_at seats w.store n ≡ false → HasTurn code w n → ⊥
turn_not code w seats n strand seated there t h =
    (turn_sits code w n strand (seated n (seat.Home strand) there)).1 (sym (ap (λ o. option_map_or (turn_in w.store) o false) there) ∙ t) h

-- ---- the end of the program

ended-in : (place : ℕ) (m : Stance) → ended_shown (asked place m) ≡ true → m ≡ Idle
ended-in place Idle e = refl
ended-in place (Asking want x) e = absurd (false≢true e)
ended-in place (Failed why) e = absurd (false≢true e)
ended-in place (Waits f c) e = absurd (false≢true e)
ended-in place Closed e = absurd (false≢true e)

ended-is : (code : Code) (w : World) (seats : List Seat) → AreSeated code w.strands seats → ended_at seats 0 ≡ true → HasEnded w 0
ended-is code w seats seated t = by (slice_get seats 0) refl t
  where
    by : (o : Option Seat) → slice_get seats 0 ≡ o → option_map_or ended_in o false ≡ true → HasEnded w 0
    by None e t = absurd (false≢true t)
    by (Some (seat.Home strand)) e t =
        let sits : Sits code w.strands 0 strand = seated 0 (seat.Home strand) e in
        record {
          st = standing strand;
          there = sits.there;
          idle = ended-in (place_at code.list strand.body.at) (standing strand).stance (sym (ap ended_shown sits.shows.ask) ∙ t);
        }
    by (Some (seat.Away spent closed)) e t = absurd (false≢true t)

ended-seen : (code : Code) (w : World) (seats : List Seat) → AllSit code w.strands seats → AllAtHome seats → length seats ≡ length w.strands → ended_at seats 0 ≡ false → HasEnded w 0 → ⊥
ended-seen code w seats sit home long t h =
    let x = is_there seats 0 (omega (arith, long, is_within w.strands 0 h.st h.there)) in
    by x.0 x.1 (sit 0 x.0 x.1)
  where
    by : (x : Seat) → slice_get seats 0 ≡ Some x → SitsHere code w.strands 0 x → ⊥
    by (seat.Home strand) e sits =
        let same : Some (standing strand) ≡ Some h.st = sym sits.there ∙ h.there in
        let is : standing strand ≡ h.st = cc in
        let idle : (standing strand).stance ≡ Idle = ap (λ (st : State). st.stance) is ∙ h.idle in
        let shows : ended_at seats 0 ≡ true = ap (λ o. option_map_or ended_in o false) e ∙ ap ended_shown (shown code strand Idle sits.shows idle) in
        true≢false (sym shows ∙ t)
    by (seat.Away spent closed) e sits = absurd (false≢true (home 0 (seat.Away spent closed) e))

-- where each strand stands in the world, the end that the seats show is the one without a further turn
pub end_seen : (code : Code) (w : World) (seats : List Seat) (e : Option End) → AreSeated code w.strands seats → AllSit code w.strands seats → AllAtHome seats → length seats ≡ length w.strands
    → EndShown seats w.store e → EndsWithoutTurn code w e
end_seen code w seats None seated sit home long p = (ended-seen code w seats sit home long p.0, (p.1.0, (turn_at_is code w seats p.1.0 seated p.1.1).2))
end_seen code w seats (Some ends.Done) seated sit home long p = ended-is code w seats seated p
end_seen code w seats (Some ends.AllHalted) seated sit home long p =
    (ended-seen code w seats sit home long p.0, λ n h. true≢false (sym (turn_seen code w seats n sit home long h) ∙ p.1 n))
end_seen code w seats (Some (ends.Fault why place strand)) seated sit home long p = absurd p
end_seen code w seats (Some ends.Spent) seated sit home long p = absurd p

-- such an end is the machine's
pub is_end : (code : Code) (fuel : ℕ) (entries : List Entry) (w : World) (end : Option End) → EndsWithoutTurn code w end → IfSome end (RunEndsWith code fuel entries w)
is_end code fuel entries w None h = tt
is_end code fuel entries w (Some ends.Done) h = done h
is_end code fuel entries w (Some ends.AllHalted) h = all_halted h.0 (λ n can. h.1 n (inl can)) (λ n. whole n (fault_of w n) refl)
  where
    whole : (n : ℕ) (o : Option FaultKind) → fault_of w n ≡ o → fault_of w n ≡ None
    whole n None e = e
    whole n (Some why) e = absurd (h.1 n (inr (λ f. absurd (cc))))
is_end code fuel entries w (Some (ends.Fault why place strand)) h = absurd h
is_end code fuel entries w (Some ends.Spent) h = absurd h
