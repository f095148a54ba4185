-- A strand that is lent, and its act.
use Rattle.std.proofs.Common.{◌≡◌, ◌∙◌, ℕ, ◌<◌, ◌≤◌, ◌^◌, Bool, true, false, List, ◌++◌, length, refl, ap, sym, subst, arith, true≢false, MatchBool, MatchOption}
use Rattle.std.proofs.lemmas.Bool.{false≢true}
use Rattle.std.specs.List.{list_all}
use Rattle.std.specs.Prelude.{None, Some, Ok, slice_get, slice_set}
use Rattle.std.specs.Option.{option_map, option_map_or}
use Rattle.std.specs.declared.alloc.Global.{Global}
use Rattle.std.specs.declared.option.Option.{Option}
use Rattle.std.specs.declared.vec.Vec.{Vec}
use Rattle.a68_acts.specs.Does.{refused, does}
use Rattle.a68_acts.specs.Store.{Store}
use Rattle.a68_acts.specs.declared.want.Reply.{Reply}
use Rattle.a68_exec.specs.Runs.{has_closed, woken}
use Rattle.a68_instructions.specs.Bodies.{stance_in}
use Rattle.a68_instructions.specs.Machine.{State, asked, replied, replied_in, settle, told_by}
use Rattle.a68_instructions.specs.Machine as machine
use Rattle.a68_instructions.specs.declared.ask.Ask.{Ask}
use Rattle.a68_instructions.specs.declared.ask.Ask.TheVariants as ask
use Rattle.a68_instructions.specs.declared.ask.Stance.{Stance}
use Rattle.a68_instructions.specs.declared.ask.Stance.TheVariants.{Asking, Waits}
use Rattle.a68_rests.specs.Resting.{Resting}
use Rattle.a68_strand.specs.Strands.{standing}
use Rattle.a68_strand.specs.declared.strand.Strand.{Strand}
use Rattle.a68_values.specs.Logs.{Logged}
use Rattle.a68_values.specs.declared.act.Act.{Act}
use Rattle.a68_values.specs.declared.act.FaultKind.{FaultKind}
use Rattle.a68_values.specs.declared.kept.End.{End}
use Rattle.a68_values.specs.declared.kept.End.TheVariants as ends
use Rattle.a68_world.specs.Ending.{end_asked}
use Rattle.a68_world.specs.Inside.{run_of, IsSound}
use Rattle.a68_world.specs.Leases.{IsHeld, ActOf, DoneWith, closes_by}
use Rattle.a68_world.specs.Kin.{AreKin, Forks, WakesBehind}
use Rattle.a68_world.specs.Resting.{RestsBehind, written}
use Rattle.a68_world.specs.Seats.{Sits, SitsHere, is_home, turn_shown}
use Rattle.a68_world.specs.Stepping.{AreUnits, Meets, units_begun}
use Rattle.a68_world.specs.Turns.{GoesOn, IsReadyAs, IsDueAs, EndsAt}
use Rattle.a68_world.specs.Waking.{Wakes}
use Rattle.a68_world.specs.declared.kin.Kin.{Kin}
use Rattle.a68_world.specs.declared.seat.Seat.{Seat}
use Rattle.a68_world.specs.declared.seat.Seat.TheVariants as seat
use Rattle.a68_world.specs.declared.status.StrandState.TheVariants as status
use Rattle.a68_world.specs.declared.world.World.TheInside.{Inside}
use Rattle.a68_world.proofs.Behind as b
use Rattle.a68_world.proofs.Behind.{Moved, Noted, now, many_seats}
use Rattle.a68_world.proofs.Kept.{ended_keep, lost_keep}
use Rattle.a68_world.proofs.Outcomes.{EndsBy, all_home_at, number_of, seat_lent, told_acts, told_long, told_sit, told_sound}
use Rattle.a68_world.proofs.Places.{get_front, is_within, length_map, set_same}
use Rattle.a68_world.proofs.Replays.{stands_awake}
use Rattle.a68_world.proofs.Showing.{asking, next_fault, shown, turn_sits}
use Rattle.a68_world.proofs.Standing.{asking_as, ends_as}
use Rattle.a68_world.proofs.Steady.{steady_more, steady_run}
use Rattle.a68_world.proofs.Telling.{closes_behind}

module _ (s : Inside) (sound : IsSound s) (strand : Strand) (held : IsHeld (run_of s) strand) where
  -- one that does not wait stands as the machine has it
  sits_awake : ((f c : ℕ) → (standing strand).stance ≡ Waits f c → ⊥) → Sits s.code (now s).strands strand.number strand
  sits_awake awake = record {
    number = refl;
    there = stands_awake s.code (now s) strand.number (standing strand) held.replay.rests awake held.replay.stands;
    shows = held.replay.shows;
    room = held.replay.room;
  }

  -- one that has something to do does not wait
  awake-turn : turn_shown strand.about.ask s.store ≡ true → (f c : ℕ) → (standing strand).stance ≡ Waits f c → ⊥
  awake-turn t f c e =
      let shows : strand.about.ask ≡ ask.Waits = shown s.code strand (Waits f c) held.replay.shows e in
      false≢true (sym (ap (λ a. turn_shown a s.store) shows) ∙ t)

  pub sits_turn : turn_shown strand.about.ask s.store ≡ true → Sits s.code (now s).strands strand.number strand
  sits_turn t = sits_awake (awake-turn t)

  pub ready_lent : turn_shown strand.about.ask s.store ≡ true → IsReadyAs (run_of s) strand.number status.Lent
  ready_lent t = record {
    home = held.lent;
    turn = (turn_sits s.code (now s) strand.number strand (sits_turn t)).0 (sym (ap (turn_shown strand.about.ask) sound.store) ∙ t);
  }

  -- the end to which its turn comes, or the act that is due
  pub lent_ends : GoesOn (run_of s) → (turn_shown strand.about.ask s.store ≡ true) → (full : Bool) → MatchBool full (s.fuel ≤ length s.journal.items) (length s.journal.items < s.fuel)
      → MatchOption (end_asked strand.about.ask strand.place s.store full strand.number) (IsDueAs (run_of s) strand.number status.Lent) (EndsAt (run_of s) strand.number)
  lent_ends goes t full by = ends_as s sound strand.number strand status.Lent (sits_turn t) (ready_lent t) goes full (λ f. less full by f) (λ e. more full by e)
    where
      less : (b : Bool) → MatchBool b (s.fuel ≤ length s.journal.items) (length s.journal.items < s.fuel) → b ≡ false → length s.journal.items < s.fuel
      less true p f = absurd (true≢false f)
      less false p f = p

      more : (b : Bool) → MatchBool b (s.fuel ≤ length s.journal.items) (length s.journal.items < s.fuel) → b ≡ true → s.fuel ≤ length s.journal.items
      more true p t = p
      more false p t = absurd (false≢true t)

  -- ---- the act is done

  -- what the calls gave
  pub record Reached (act : Act) (told : Reply) (store : Store) (units : List Seat) : Type 0 where
    pub goes : GoesOn (run_of s)
    pub due : IsDueAs (run_of s) strand.number status.Lent
    pub done : DoneWith s.store strand act told store
    pub are : AreUnits s.code (units_begun s.code strand s.store) (length s.seats.items) units

  module _ (act : Act) (told : Reply) (store : Store) (units : List Seat) (r : Reached act told store units) where
    asks : (standing strand).stance ≡ Asking r.done.want strand.about.waiting
    asks = ap (λ (a : Ask). stance_in a strand.about.waiting) r.done.asks

    pub sits : Sits s.code (now s).strands strand.number strand
    sits = sits_awake (λ f c e. let a = asks in absurd (cc (e, a)))

    lent-seat : (closed : Bool) × (slice_get s.seats.items strand.number ≡ Some (seat.Away false closed))
    lent-seat = seat_lent s.seats.items strand.number held.lent

    abbrev pub moved : Moved s strand.number act store units
    moved = record {
      sound = sound;
      goes = r.goes;
      where_ = status.Lent;
      ready = r.due.ready;
      fuel = r.due.fuel;
      strand = strand;
      at = seat.Away false (seat_lent s.seats.items strand.number held.lent).0;
      there = (seat_lent s.seats.items strand.number held.lent).1;
      sits = sits;
      act_done = record { want = r.done.want; reply = told; asks = r.done.asks; does_it = r.done.does_it };
      are = r.are;
    }

    -- what it comes to once it is told
    behind-is : settle s.code (replied s.code (standing strand) told) ≡ settle s.code (told_by s.code (standing strand) strand.about.waiting told)
    behind-is = ap (λ (m : Stance). settle s.code (replied_in m s.code (standing strand) told)) asks

    mine : (closed : Bool) → closed ≡ closes_by strand.about.waiting told → SitsHere s.code (b.all s strand.number act store units moved) strand.number (seat.Away false closed)
    mine closed e = (
      refl,
      e ∙ sym (closes_behind s.code (standing strand) strand.about.waiting told) ∙ sym (ap (λ (x : State). has_closed x.stance) behind-is)
          ∙ sym (ap (λ o. option_map_or (λ (x : State). has_closed x.stance) o false) (b.there_next s strand.number act store units moved)),
    )

    abbrev pub lent_seats : Bool → List Seat
    lent_seats closed = slice_set s.seats.items strand.number (seat.Away false closed) ++ units

    wakes : (closed : Bool) → closed ≡ closes_by strand.about.waiting told → (grown kin : List Kin) (seats : List Seat) (lost : Bool) → Forks s.kin.items strand.number (length units) grown
        → WakesBehind s.code strand.number grown kin (lent_seats closed) seats lost
        → Wakes s.code (b.all s strand.number act store units moved) (lent_seats closed) seats lost × AreKin kin (b.all s strand.number act store units moved)
    wakes closed e grown kin seats lost forks w =
        w (b.all s strand.number act store units moved) (told_sit s strand.number act store units moved (seat.Away false closed) refl (mine closed e))
        (told_long s strand.number act store units moved (seat.Away false closed) refl (mine closed e)) (b.rest s strand.number act store units moved)
        (b.kin_all s strand.number act store units moved grown forks) (b.only_behind s strand.number act store units moved)

    -- not every strand stands in the world
    parted : (seats : List Seat) (closed : Bool) → slice_get seats strand.number ≡ Some (seat.Away false closed) → EndsBy seats store s.end
    parted seats closed there = by (list_all is_home seats) refl
      where
        by : (b : Bool) → list_all is_home seats ≡ b → EndsBy seats store s.end
        by true e = absurd (false≢true (all_home_at seats e strand.number (seat.Away false closed) there))
        by false e = rw e r.goes.unended

    abbrev pub run_lent : Logged → Vec Seat Global → Resting → Vec Kin Global → Bool → Inside
    run_lent journal seats rested kin lost = record s { journal = journal; store = store; seats = seats; rests = rested; kin = kin; lost = lost }

    pub lent_acts : (closed lost : Bool) (placed : List Seat) (journal : Logged) (seats : Vec Seat Global) (rested : Resting) (grown : List Kin) (kin : Vec Kin Global) → closed ≡ closes_by strand.about.waiting told
        → Noted s strand.number act journal → placed ≡ slice_set s.seats.items strand.number (seat.Away false closed) ++ units → Forks s.kin.items strand.number (length units) grown
        → WakesBehind s.code strand.number grown kin.items placed seats.items lost → RestsBehind (written act) strand.number kin.items seats.items store s.rests rested
        → IsSound (run_lent journal seats rested kin lost) × ActOf (run_of s) strand (Ok told) (run_of (run_lent journal seats rested kin lost))
    lent_acts closed lost placed journal seats rested grown kin e noted at forks w behind =
        let both = wakes closed e grown kin.items seats.items lost forks (subst (λ l. WakesBehind s.code strand.number grown kin.items l seats.items lost) at w) in
        let woke = both.0 in
        let there : slice_get (lent_seats closed) strand.number ≡ Some (seat.Away false closed) =
        get_front (slice_set s.seats.items strand.number (seat.Away false closed)) units strand.number (seat.Away false closed)
        (set_same s.seats.items strand.number moved.at (seat.Away false closed) moved.there) in
        let none = parted seats.items closed (woke.lent strand.number closed there) in (
          told_sound s strand.number act store units moved (seat.Away false closed) refl (mine closed e) journal seats kin lost s.end noted both.1 woke none rested behind,
          (
            told_acts s strand.number act store units moved (seat.Away false closed) refl (mine closed e) journal seats kin lost s.end noted both.1 woke none rested behind,
            record {
              want = r.done.want;
              act = act;
              behind = store;
              asks = r.done.asks;
              does_it = ap (does r.done.want) (sym sound.store) ∙ r.done.does_it;
              room = (asking_as s sound strand.number strand status.Lent sits r.due).room r.done.want act told store r.done.asks r.done.does_it;
            },
            number_of seats.items strand.number (seat.Away false closed) (woke.lent strand.number closed there),
          ),
        )

    -- there are numbers for all, and the strand is one of them
    pub lent_few : (closed lost : Bool) (placed shown seats : List Seat) (grown kin : List Kin) → closed ≡ closes_by strand.about.waiting told
        → placed ≡ slice_set s.seats.items strand.number (seat.Away false closed) ++ units → Forks s.kin.items strand.number (length units) grown
        → WakesBehind s.code strand.number grown kin placed seats lost → shown ≡ seats → (length shown < 2 ^ 32) × (strand.number < length shown)
    lent_few closed lost placed shown seats grown kin e at forks w same =
        let woke = (wakes closed e grown kin seats lost forks (subst (λ l. WakesBehind s.code strand.number grown kin l seats lost) at w)).0 in
        let st = steady_more s.code (length s.journal.items) (now s) strand.number act (b.behind s strand.number act store units moved) (steady_run (run_of s) sound.run) (b.next_is s strand.number act store units moved) in
        let all = b.all s strand.number act store units moved in
        let here_ : length shown ≡ length seats = ap (λ l. length l) same in (
          omega (arith, here_, woke.long, st.many, st.most, length_map (woken s.code all) all),
          omega (arith, here_, woke.long, is_within all strand.number (b.next s strand.number act store units moved) (b.there_next s strand.number act store units moved)),
        )

-- ---- it does none

pub ended_sound : (s : Inside) → IsSound s → (n : ℕ) (e : End) → GoesOn (run_of s) → EndsAt (run_of s) n e → IsSound (record s { end = Some e })
ended_sound s sound n e goes at = record {
  run = ended_keep (run_of s) n e sound.run goes at;
  room = sound.room;
  store = sound.store;
  seats = sound.seats;
  passed = sound.passed;
  rests = sound.rests;
  kin = sound.kin;
  joined = sound.joined;
  enough = sound.enough;
}

pub lost_sound : (s : Inside) → IsSound s → GoesOn (run_of s) → IsSound (record s { lost = true })
lost_sound s sound goes = record {
  run = lost_keep (run_of s) sound.run goes.unended;
  room = sound.room;
  store = sound.store;
  seats = sound.seats;
  passed = sound.passed;
  rests = sound.rests;
  kin = sound.kin;
  joined = sound.joined;
  enough = sound.enough;
}

-- the act meets a fault
pub fault_lent : (s : Inside) (strand : Strand) (why : FaultKind) → IsSound s → Sits s.code (now s).strands strand.number strand → Meets s.store strand why
    → EndsAt (run_of s) strand.number (ends.Fault why strand.place strand.number)
fault_lent s strand why sound sits meets =
    let x = asking strand meets.want meets.asks in (
      refl,
      next_fault (now s) strand.number (standing strand) (Asking meets.want x.0) sits.there x.1 ∙ ap refused (ap (does meets.want) (sym sound.store) ∙ meets.refused),
      ap (option_map (λ (st : State). machine.place_at s.code.list st.at)) sits.there ∙ ap (λ p. Some p) (sym sits.shows.place),
    )

-- what the calls of an act that is due gave
pub due_reached : (s : Inside) (strand : Strand) (sound : IsSound s) (held : IsHeld (run_of s) strand) (act : Act) (told : Reply) (store : Store) (units : List Seat) → GoesOn (run_of s)
    → IsDueAs (run_of s) strand.number status.Lent → DoneWith s.store strand act told store → AreUnits s.code (units_begun s.code strand s.store) (length s.seats.items) units
    → Reached s sound strand held act told store units
due_reached s strand sound held act told store units goes due done are = record { goes = goes; due = due; done = done; are = are }

-- the seat that the code borrows
pub lent_there : (s : Inside) (strand : Strand) → IsHeld (run_of s) strand → (closed : Bool) × (slice_get s.seats.items strand.number ≡ Some (seat.Away false closed))
lent_there s strand held = seat_lent s.seats.items strand.number held.lent

-- the end to which a turn comes, or the act that is due
pub chosen_end : (s : Inside) (strand : Strand) (o : Option End) (e : End) → MatchOption o (IsDueAs (run_of s) strand.number status.Lent) (EndsAt (run_of s) strand.number) → o ≡ Some e
    → EndsAt (run_of s) strand.number e
chosen_end s strand o e m is = subst (λ x. MatchOption x (IsDueAs (run_of s) strand.number status.Lent) (EndsAt (run_of s) strand.number)) is m

pub chosen_due : (s : Inside) (strand : Strand) (o : Option End) → MatchOption o (IsDueAs (run_of s) strand.number status.Lent) (EndsAt (run_of s) strand.number) → o ≡ None
    → IsDueAs (run_of s) strand.number status.Lent
chosen_due s strand o m is = subst (λ x. MatchOption x (IsDueAs (run_of s) strand.number status.Lent) (EndsAt (run_of s) strand.number)) is m
