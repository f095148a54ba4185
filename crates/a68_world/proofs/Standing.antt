-- Where a run stands: at its beginning, between two turns, and at its end.
use Rattle.std.proofs.Common.{◌≡◌, ◌∙◌, ℕ, zero, suc, ◌+◌, ◌<◌, ◌≤◌, ◌-◌, ◌^◌, ◌↔◌, Bool, true, false, List, [], ◌∷◌, length, map, refl, ap, sym, subst, arith, true≢false, MatchOption, MatchBool}
use Rattle.std.proofs.lemmas.Bool.{false≢true}
use Rattle.std.specs.Prelude.{None, Some, IfSome, IsNone, slice_get, nat_lt, if◌then◌else◌}
use Rattle.std.specs.Option.{is_some, option_map, option_map_or}
use Rattle.std.specs.declared.alloc.Global.{Global}
use Rattle.std.specs.declared.option.Option.{Option}
use Rattle.std.specs.declared.vec.Vec.{Vec}
use Rattle.a68_acts.specs.Does.{Outcome, did, refuses, waits, refused, does}
use Rattle.a68_acts.specs.Keeping.{outer_slots, IsKept}
use Rattle.a68_acts.specs.Store.{Store, opening_store, most_strands}
use Rattle.a68_acts.specs.declared.want.Reply.TheVariants as reply
use Rattle.a68_acts.specs.declared.want.Want.{Want}
use Rattle.a68_acts.specs.declared.want.Want.TheVariants as want
use Rattle.a68_code.specs.Valid.{IsValid}
use Rattle.a68_code.specs.declared.code.Code.{Code}
use Rattle.a68_marks.specs.Marked.{is_marked}
use Rattle.a68_exec.specs.Rooms.{room_at}
use Rattle.a68_heights.specs.Room.{Suffices}
use Rattle.a68_joined.specs.Joined.{AreJoined}
use Rattle.a68_joined.specs.declared.joined.JoinedCode.{JoinedCode}
use Rattle.a68_rests.specs.Resting.{IsListed, Resting}
use Rattle.a68_store.specs.Acts.{has_to_wait}
use Rattle.a68_strand.specs.Cyclic.{IsFirstBehind}
use Rattle.a68_strand.specs.Ends.{fault_of, fault_in, RunEndsWith}
use Rattle.a68_instructions.specs.Machine.{State, asked, beginning, settle}
use Rattle.a68_instructions.specs.Machine as machine
use Rattle.a68_exec.specs.Runs.{World, opening, after as runs_after}
use Rattle.a68_strand.specs.Plain.{IsOther}
use Rattle.a68_strand.specs.Strands.{standing, wants}
use Rattle.a68_instructions.specs.declared.ask.Ask.{Ask}
use Rattle.a68_instructions.specs.declared.ask.Ask.TheVariants as ask
use Rattle.a68_instructions.specs.declared.ask.Stance.{Stance}
use Rattle.a68_instructions.specs.declared.ask.Stance.TheVariants.{Idle, Asking, Failed, Waits, Closed}
use Rattle.a68_instructions.specs.declared.ask.Waiting.{Waiting}
use Rattle.a68_strand.specs.declared.strand.Strand.{Strand}
use Rattle.a68_values.specs.Logs.{Logged}
use Rattle.a68_values.specs.declared.act.Act.{Act}
use Rattle.a68_values.specs.declared.act.Entry.{Entry}
use Rattle.a68_values.specs.declared.act.Act.TheVariants as act
use Rattle.a68_values.specs.declared.act.FaultKind.TheVariants as fault
use Rattle.a68_values.specs.declared.kept.End.{End}
use Rattle.a68_values.specs.declared.kept.End.TheVariants as ends
use Rattle.a68_values.specs.declared.kept.Kept.{Kept}
use Rattle.a68_world.specs.Ending.{EndShown, HasTurnAt, end_asked, end_at}
use Rattle.a68_world.specs.Inside.{run_of, IsSound}
use Rattle.a68_world.specs.Run.{RunBegins, EndsWithoutTurn, most_fuel, world}
use Rattle.a68_world.specs.Scopes.{WantBelow, StanceBelow}
use Rattle.a68_world.specs.Stepping.{AsksOther, IsAsking, IsAskingAt, BringsRoom, FewUnitsAt, units_asked}
use Rattle.a68_world.specs.Turns.{GoesOn, IsReady, IsReadyAs, IsDue, IsDueAs, IsOtherDue, IsOtherDueAs, EndsAt, StandsAt, IsAble, FinishesRun}
use Rattle.a68_world.specs.declared.kin.Kin.{Kin}
use Rattle.a68_world.specs.declared.seat.Seat.{Seat}
use Rattle.a68_world.specs.declared.seat.Seat.TheVariants as seat
use Rattle.a68_world.specs.declared.status.StrandState.{StrandState}
use Rattle.a68_world.specs.declared.status.StrandState.TheVariants as status
use Rattle.a68_world.specs.declared.world.World.TheInside.{Inside}
use Rattle.a68_world.specs.Seats.{Sits, SitsAt, SitsHere, AreSeated, AllSit, AreFirstSeats, is_home, status_of, turn_at, turn_shown}
use Rattle.a68_world.proofs.Behind.{now, many_seats}
use Rattle.a68_world.proofs.Entering.{RoomAfter, RoomBehind, does-room}
use Rattle.a68_world.proofs.Forking.{kin_none}
use Rattle.a68_world.proofs.Outcomes.{number_of}
use Rattle.a68_world.proofs.Places.{get_mapped, is_within}
use Rattle.a68_world.proofs.ScopesKept.{brings_room-below, want-of}
use Rattle.a68_world.proofs.Showing.{AllAtHome, asking, shown, next_act, next_fault, turn_sits, turn_at_is, turn_not, end_seen, is_end}
use Rattle.a68_world.proofs.Steady.{steady_run, counted_behind, opening_waits}

-- a Fork need not wait
forks-go : (store : Store) (entrances : List ℕ) → does (want.Fork entrances) store ≡ waits → ⊥
unfolding does
forks-go store entrances e = by (nat_lt most_strands (store.strands + length entrances)) e
  where
    by : (b : Bool) → (if b then refuses fault.Strands else did (act.Fork store.strands (length entrances)) (reply.Base store.strands) (record store { strands = store.strands + length entrances })) ≡ waits → ⊥
    by true e = absurd (cc)
    by false e = absurd (cc)

-- ---- the beginning

-- what the code makes at the start
pub record Made (code : Code) (fuel : ℕ) (journal : Logged) (store : Store) (seats : Vec Seat Global) (kin : List Kin) (marks : List ℕ) (rested : Resting) (end : Option End) : Type 0 where
  pub items : journal.items ≡ []
  pub room : journal.room ≡ fuel
  pub store_is : store ≡ opening_store
  pub first : AreFirstSeats code seats.items
  pub kin_is : length kin ≡ 1
  pub unmarked : (n : ℕ) → is_marked marks n ≡ false
  pub none_rest : (n : ℕ) → IsListed rested n → ⊥
  pub end_is : EndShown seats.items store end

module _ (code : Code) (fuel : ℕ) (journal : Logged) (store : Store) (seats : Vec Seat Global) (kin : Vec Kin Global) (marks : List ℕ) (rested : Resting) (joined : JoinedCode) (rooms : List ℕ × ℕ) (end : Option End)
    (m : Made code fuel journal store seats kin.items marks rested end) where
  abbrev pub made_run : Inside
  made_run = record { code = code; joined = joined; rooms = rooms; fuel = fuel; journal = journal; store = store; seats = seats; passed = marks; rests = rested; kin = kin; lost = false; end = end }

  made-world : world (run_of made_run) ≡ opening code
  made-world = ap (λ (es : List Entry). world (record { code = code; fuel = fuel; entries = es; status = map status_of seats.items; lost = false; end = end })) m.items

  first-sits : Sits code (opening code).strands 0 m.first.0
  first-sits = record {
    number = m.first.3;
    there = ap (λ (x : State). Some x) (sym m.first.2.state);
    shows = record { ask = m.first.2.ask; place = m.first.2.place };
    room = m.first.4;
  }

  made-sit : AllSit code (opening code).strands seats.items
  made-sit k x e = by k x (sym (ap (λ l. slice_get l k) m.first.1) ∙ e)
    where
      by : (k : ℕ) (x : Seat) → slice_get (seat.Home m.first.0 ∷ []) k ≡ Some x → SitsHere code (opening code).strands k x
      by zero x e = let same : seat.Home m.first.0 ≡ x = cc in subst (λ y. SitsHere code (opening code).strands 0 y) same first-sits
      by (suc k) x e = absurd (cc)

  made-seated : AreSeated code (opening code).strands seats.items
  made-seated k x e = by x (made-sit k x e)
    where
      by : (x : Seat) → SitsHere code (opening code).strands k x → SitsAt code (opening code).strands k x
      by (seat.Home strand) p = p
      by (seat.Away spent closed) p = p.1

  made-home : AllAtHome seats.items
  made-home k x e = by k x (sym (ap (λ l. slice_get l k) m.first.1) ∙ e)
    where
      by : (k : ℕ) (x : Seat) → slice_get (seat.Home m.first.0 ∷ []) k ≡ Some x → is_home x ≡ true
      by zero x e = let same : seat.Home m.first.0 ≡ x = cc in sym (ap is_home same)
      by (suc k) x e = absurd (cc)

  made-end : EndsWithoutTurn code (opening code) end
  made-end = end_seen code (opening code) seats.items end made-seated made-sit made-home (ap (λ l. length l) m.first.1) (rw m.store_is at m.end_is)

  pub made_is : RunBegins code fuel (run_of made_run)
  made_is = record {
    is =
        ap (λ (es : List Entry). record { code = code; fuel = fuel; entries = es; status = map status_of seats.items; lost = false; end = end }) m.items
        ∙ ap (λ (l : List Seat). record { code = code; fuel = fuel; entries = []; status = map status_of l; lost = false; end = end }) m.first.1;
    ends = made-end;
  }

  none-spent : (k : ℕ) → slice_get (map status_of seats.items) k ≡ Some status.Spent → ⊥
  none-spent k e = by k (sym (ap (λ l. slice_get (map status_of l) k) m.first.1) ∙ e)
    where
      by : (k : ℕ) → slice_get (status.Home ∷ []) k ≡ Some status.Spent → ⊥
      by zero e = absurd (cc)
      by (suc k) e = absurd (cc)

  pub made_sound : IsValid code → length code.list < 2 ^ 32 → 1 ≤ fuel → fuel ≤ most_fuel → AreJoined code joined.items.items → Suffices code (room_at rooms) → IsSound made_run
  made_sound valid short some little laid enough = record {
    run = record {
      valid = valid;
      short = short;
      some_fuel = some;
      little_fuel = little;
      within = rw m.items (omega (arith, some));
      runs = rw m.items refl;
      all = rw made-world (ap (λ (l : List Seat). length (map status_of l)) m.first.1);
      ended = rw made-world (is_end code fuel journal.items (opening code) end made-end);
      goes_on = λ none home. rw made-world (subst (λ o. EndsWithoutTurn code (opening code) o) none made-end);
      lost = λ e. absurd (false≢true e);
      spent = λ k e none. absurd (none-spent k e);
    };
    room = omega (arith, m.room);
    store = rw made-world m.store_is;
    seats = rw made-world made-seated;
    passed = λ k marked. absurd (true≢false (sym marked ∙ m.unmarked k));
    rests = λ k marked. absurd (m.none_rest k marked);
    kin = rw made-world (kin_none kin.items (opening code).strands m.kin_is (λ k st f c e w. absurd (omega (arith, opening_waits code k st f c e w))));
    joined = laid;
    enough = enough;
  }

-- ---- between two turns

pub none_from : (o : Option End) (b : Bool) → b ≡ is_some o → b ≡ false → o ≡ None
none_from None b e f = refl
none_from (Some x) b e f = absurd (cc)

home-status : (x : Seat) → status_of x ≡ status.Home → (strand : Strand) × (x ≡ seat.Home strand)
home-status (seat.Home strand) e = (strand, refl)
home-status (seat.Away true closed) e = absurd (cc)
home-status (seat.Away false closed) e = absurd (cc)

-- a strand that stands in the world has a seat
pub seat_home : (seats : List Seat) (n : ℕ) → slice_get (map status_of seats) n ≡ Some status.Home → (strand : Strand) × (slice_get seats n ≡ Some (seat.Home strand))
seat_home seats n e =
    let x = get_mapped status_of seats n status.Home e in
    let h = home-status x.0 x.2 in
    (h.0, x.1 ∙ ap (λ (y : Seat). Some y) h.1)

module _ (s : Inside) (sound : IsSound s) where
  seated-store : (n : ℕ) (b : Bool) → turn_at s.seats.items s.store n ≡ b → turn_at s.seats.items (now s).store n ≡ b
  seated-store n b e = sym (ap (λ t. turn_at s.seats.items t n) sound.store) ∙ e

  -- a seat that shows a turn is that of a strand which is ready, and only such a one
  pub ready_is : (n : ℕ) → turn_at s.seats.items s.store n ≡ true → IsReady (run_of s) n
  ready_is n e =
      let t = turn_at_is s.code (now s) s.seats.items n sound.seats (seated-store n true e) in
      record { home = number_of s.seats.items n (seat.Home t.0) t.1; turn = t.2 }

  pub ready_not : (n : ℕ) → turn_at s.seats.items s.store n ≡ false → IsReady (run_of s) n → ⊥
  ready_not n e r =
      let h = seat_home s.seats.items n r.home in
      turn_not s.code (now s) s.seats.items n h.0 sound.seats h.1 (seated-store n false e) r.turn

  pub ready_by : (n : ℕ) (b : Bool) → b ≡ turn_at s.seats.items s.store n → MatchBool b (IsReady (run_of s) n) (IsReady (run_of s) n → ⊥)
  ready_by n true e = ready_is n (sym e)
  ready_by n false e = ready_not n (sym e)

  pub ready_seen : (n : ℕ) → IsReady (run_of s) n → turn_at s.seats.items s.store n ≡ true
  ready_seen n r = by (turn_at s.seats.items s.store n) refl
    where
      by : (b : Bool) → turn_at s.seats.items s.store n ≡ b → b ≡ true
      by true e = refl
      by false e = absurd (ready_not n e r)

  -- the first that shows a turn is the first that can be turned
  pub able_first : (after : ℕ) (found : Option ℕ) → s.end ≡ None → IfSome found (IsFirstBehind (HasTurnAt s.seats.items s.store) after) → IfSome found (IsFirstBehind (IsAble (run_of s)) after)
  able_first after None none f = tt
  able_first after (Some n) none f = record {
    such = record { unended = none; ready = ready_is n f.such };
    first = λ other able sooner. f.first other (ready_seen other able.ready) sooner;
  }

  pub able_none : (n : ℕ) → turn_at s.seats.items s.store n ≡ false → IsAble (run_of s) n → ⊥
  able_none n e able = ready_not n e able.ready

  -- there is none exactly where no seat shows a turn
  pub able_exactly : (after : ℕ) (found : Option ℕ) → s.end ≡ None → IfSome found (IsFirstBehind (HasTurnAt s.seats.items s.store) after)
      → (IsNone found → (n : ℕ) → turn_at s.seats.items s.store n ≡ false) → IsNone found ↔ ((n : ℕ) → IsAble (run_of s) n → ⊥)
  able_exactly after None none first lacks = (λ e n. able_none n (lacks e n), λ h. refl)
  able_exactly after (Some n) none first lacks = (λ e. absurd (cc), λ h. absurd (h n (record { unended = none; ready = ready_is n first.such })))

  -- ---- at a turn

  pub few_seats : length s.seats.items < 2 ^ 32
  few_seats =
      let st = steady_run (run_of s) sound.run in
      omega (arith, st.many, st.most, many_seats s sound)

  pub few_frames : length s.journal.items < s.fuel → length s.store.frames < 2 ^ 32 - 1
  few_frames fuel =
      let st = steady_run (run_of s) sound.run in
      omega (arith, st.few, fuel, sound.run.little_fuel, ap (λ (t : Store). length t.frames) sound.store)

  -- a strand, in the world or lent, that stands as the machine has it
  module _ (n : ℕ) (strand : Strand) (where_ : StrandState) (sits : Sits s.code (now s).strands n strand) where
    has-state : (st : State) → slice_get (now s).strands n ≡ Some st → standing strand ≡ st
    has-state st e =
        let both : Some (standing strand) ≡ Some st = sym sits.there ∙ e in
        cc

    -- the place that the strand shows
    stands-at : StandsAt (run_of s) n strand.place
    stands-at = ap (option_map (λ (st : State). machine.place_at s.code.list st.at)) sits.there ∙ ap (λ p. Some p) (sym sits.shows.place)

    -- a strand that is due shows the act
    pub due_wants_as : IsDueAs (run_of s) n where_ → (w : Want) × (strand.about.ask ≡ ask.Want w)
    due_wants_as due =
        let same = has-state due.st due.there in
        (due.want, shown s.code strand (Asking due.want due.wait) sits.shows (ap (λ (x : State). x.stance) same ∙ due.asks))

    -- other values than plain ones take part in the act that is due
    pub due_other_as : IsDueAs (run_of s) n where_ → AsksOther s.store strand → IsOtherDueAs (run_of s) n where_
    due_other_as due other =
        let same = has-state due.st due.there in
        let asks : strand.about.ask ≡ ask.Want due.want = shown s.code strand (Asking due.want due.wait) sits.shows (ap (λ (x : State). x.stance) same ∙ due.asks) in
        record { due = due; other = subst (λ (x : Store). IsOther due.want x) sound.store (other due.want asks) }

    not-waiting : IsReadyAs (run_of s) n where_ → (w : Want) → strand.about.ask ≡ ask.Want w → does w s.store ≡ waits → ⊥
    not-waiting ready w asks e =
        let t : turn_shown strand.about.ask (now s).store ≡ false =
        ap (λ a. turn_shown a (now s).store) asks ∙ ap (λ o. if has_to_wait o then false else true) (ap (does w) (sym sound.store) ∙ e) in
        (turn_sits s.code (now s) n strand sits).1 t ready.turn

    pub asking_as : IsDueAs (run_of s) n where_ → IsAsking s.store strand
    asking_as due =
        let w = due_wants_as due in
        record { asks = ap wants w.1; goes = not-waiting due.ready; room = brings }
      where
        brings : BringsRoom s.store strand
        brings w act told after asks e =
            let st = steady_run (run_of s) sound.run in
            let x = asking strand w asks in
            let below = st.below n (standing strand) sits.there in
            let frames : length s.store.frames ≡ length (now s).store.frames = ap (λ (t : Store). length t.frames) sound.store in
            let want : WantBelow (length (now s).store.frames) w = want-of (length (now s).store.frames) w x.0 (subst (λ (m : Stance). StanceBelow (length (now s).store.frames) m) x.1 below.stance) in
            let room : RoomAfter (length (now s).store.frames) told after =
            subst (λ (o : Outcome). RoomBehind (length (now s).store.frames) o) (ap (does w) (sym sound.store) ∙ e) (does-room w (now s).store st.frames want) in
            brings_room-below (length after.frames) told (omega (arith, room.most, st.few, due.fuel, sound.run.little_fuel)) room.reply

    pub few_asked_as : (a : Ask) → strand.about.ask ≡ a → length s.seats.items + length (units_asked a s.store) < 2 ^ 32
    few_asked_as (ask.Want w) asks = by w refl
      where
        by : (v : Want) → w ≡ v → length s.seats.items + length (units_asked (ask.Want v) s.store) < 2 ^ 32
        by (want.Fork entrances) is = test (does (want.Fork entrances) s.store) refl
          where
            test : (o : Outcome) → does (want.Fork entrances) s.store ≡ o → length s.seats.items + length (if is_some (refused (does (want.Fork entrances) s.store)) then [] else entrances) < 2 ^ 32
            test (did act told after) e =
                let c = counted_behind (want.Fork entrances) s.store act told after e in
                let st = steady_run (run_of s) sound.run in
                let same : s.store.strands ≡ (now s).store.strands = ap (λ (t : Store). t.strands) sound.store in
                rw e (omega (arith, c.0, c.1 (omega (arith, same, st.most)), st.many, st.most, same, many_seats s sound))
            test (refuses why) e = rw e (omega (arith, few_seats))
            test waits e = absurd (forks-go s.store entrances e)
        by _ is = omega (arith, few_seats)
    few_asked_as _ asks = omega (arith, few_seats)

    -- ---- the end to which a turn comes

    pub ends_as : IsReadyAs (run_of s) n where_ → GoesOn (run_of s) → (full : Bool) → (full ≡ false → length s.journal.items < s.fuel) → (full ≡ true → s.fuel ≤ length s.journal.items)
        → MatchOption (end_asked strand.about.ask strand.place s.store full n) (IsDueAs (run_of s) n where_) (EndsAt (run_of s) n)
    ends_as ready goes full more none = by (standing strand).stance refl full refl
      where
        fault : (m : Stance) → (standing strand).stance ≡ m → fault_of (now s) n ≡ fault_in m (now s).store
        fault m e = next_fault (now s) n (standing strand) m sits.there e

        asks : (m : Stance) → (standing strand).stance ≡ m → strand.about.ask ≡ asked (machine.place_at s.code.list strand.body.at) m
        asks m e = shown s.code strand m sits.shows e

        idle : (m : Stance) → (standing strand).stance ≡ m → turn_shown (asked (machine.place_at s.code.list strand.body.at) m) (now s).store ≡ false → ⊥
        idle m e t = (turn_sits s.code (now s) n strand sits).1 (ap (λ a. turn_shown a (now s).store) (asks m e) ∙ t) ready.turn

        spent_at : (w : Want) (x : Waiting) → (standing strand).stance ≡ Asking w x → full ≡ true → (o : Outcome) → does w (now s).store ≡ o
            → EndsAt (run_of s) n (option_map_or (λ why. ends.Fault why strand.place n) (refused o) ends.Spent)
        spent_at w x e f (refuses why) is = (refl, fault (Asking w x) e ∙ ap refused is, stands-at)
        spent_at w x e f waits is = absurd (not-waiting ready w (asks (Asking w x) e) (ap (does w) sound.store ∙ is))
        spent_at w x e f (did act told after) is = (
          omega (arith, none f, sound.run.within),
          λ no. let some = sym (next_act s.code (now s) n (standing strand) w x sits.there e ∙ ap (machine_after w) is) ∙ no in absurd (cc),
        )
          where
            machine_after : Want → Outcome → Option (Act × World)
            machine_after v o = runs_after s.code (now s) n (standing strand) v o

        by : (m : Stance) → (standing strand).stance ≡ m → (b : Bool) → full ≡ b → MatchOption (end_asked strand.about.ask strand.place s.store full n) (IsDueAs (run_of s) n where_) (EndsAt (run_of s) n)
        by Idle e b f = absurd (idle Idle e refl)
        by (Waits first count) e b f = absurd (idle (Waits first count) e refl)
        by Closed e b f = absurd (idle Closed e refl)
        by (Failed why) e b f = rw (asks (Failed why) e) (refl, fault (Failed why) e, rw (sym sits.shows.place) stands-at)
        by (Asking w x) e false f =
            rw (asks (Asking w x) e, f) (record { ready = ready; st = standing strand; there = sits.there; want = w; wait = x; asks = e; fuel = more f })
        by (Asking w x) e true f =
            rw (asks (Asking w x) e, f, sound.store) (spent_at w x e f (does w (now s).store) refl)

  -- one that stands in the world
  module _ (n : ℕ) (strand : Strand) (there : slice_get s.seats.items n ≡ Some (seat.Home strand)) where
    sits_there : Sits s.code (now s).strands n strand
    sits_there = sound.seats n (seat.Home strand) there

    pub due_other : IsDue (run_of s) n → AsksOther s.store strand → IsOtherDue (run_of s) n
    due_other due other = due_other_as n strand status.Home sits_there due other

    pub asking_at : IsDue (run_of s) n → (x : Seat) → slice_get s.seats.items n ≡ Some x → IsAskingAt s.store x
    asking_at due x e =
        let both : Some (seat.Home strand) ≡ Some x = sym there ∙ e in
        let same : seat.Home strand ≡ x = cc in
        subst (λ y. IsAskingAt s.store y) same (asking_as n strand status.Home sits_there due)

    pub few_units : FewUnitsAt s.seats.items s.store n
    few_units = (strand, there, few_asked_as n strand status.Home sits_there strand.about.ask refl)

    pub ends_at : IsReady (run_of s) n → GoesOn (run_of s) → (full : Bool) → (full ≡ false → length s.journal.items < s.fuel) → (full ≡ true → s.fuel ≤ length s.journal.items)
        → MatchOption (end_asked strand.about.ask strand.place s.store full n) (IsDue (run_of s) n) (EndsAt (run_of s) n)
    ends_at ready goes full more none = ends_as n strand status.Home sits_there ready goes full more none

-- the number of a strand takes 16 bits
pub few_there : (s : Inside) → IsSound s → (n : ℕ) (strand : Strand) → slice_get (now s).strands n ≡ Some (standing strand) → n < 2 ^ 16
few_there s sound n strand there =
    let steady = steady_run (run_of s) sound.run in
    omega (arith, steady.many, steady.most, is_within (now s).strands n (standing strand) there)

pub few_number : (s : Inside) → IsSound s → (n : ℕ) (strand : Strand) → slice_get s.seats.items n ≡ Some (seat.Home strand) → n < 2 ^ 16
few_number s sound n strand at = few_there s sound n strand (sound.seats n (seat.Home strand) at).there

-- the same at its seat
pub ends_seat : (s : Inside) (n : ℕ) (x : Seat) (full : Bool) (found : Option End) → IsSound s → IsReady (run_of s) n → GoesOn (run_of s) → slice_get s.seats.items n ≡ Some x
    → MatchBool full (s.fuel ≤ length s.journal.items) (length s.journal.items < s.fuel) → found ≡ end_at x s.store full n → MatchOption found (IsDue (run_of s) n) (EndsAt (run_of s) n)
ends_seat s n (seat.Home strand) full found sound ready goes there by e =
    rw e (ends_at s sound n strand there ready goes full (λ f. less full by f) (λ t. more full by t))
  where
    less : (b : Bool) → MatchBool b (s.fuel ≤ length s.journal.items) (length s.journal.items < s.fuel) → b ≡ false → length s.journal.items < s.fuel
    less true p f = absurd (true≢false f)
    less false p f = p

    more : (b : Bool) → MatchBool b (s.fuel ≤ length s.journal.items) (length s.journal.items < s.fuel) → b ≡ true → s.fuel ≤ length s.journal.items
    more true p t = p
    more false p t = absurd (false≢true t)
ends_seat s n (seat.Away spent closed) full found sound ready goes there by e =
    let h = seat_home s.seats.items n ready.home in
    absurd (cc (h.1, there))

-- ---- the end

pub finish_is : (s : Inside) (e : End) (kept : Kept) → IsSound s → s.end ≡ Some e → kept.end ≡ e → kept.journal.entries ≡ s.journal.items → kept.journal.text ≡ s.store.text
    → kept.cells ≡ s.store.cells → kept.outer ≡ outer_slots s.store → FinishesRun (run_of s) s.code kept
finish_is s e kept sound ended end entries text cells outer =
    let ends : RunEndsWith s.code s.fuel s.journal.items (now s) e = subst (λ (o : Option End). IfSome o (RunEndsWith s.code s.fuel s.journal.items (now s))) ended sound.run.ended in
    record {
      code = refl;
      entries = entries;
      end = ended ∙ ap (λ x. Some x) (sym end);
      runs = record {
        world = now s;
        runs = rw entries sound.run.runs;
        keeps = subst (λ (t : Store). IsKept t kept) sound.store (record { text = text; cells = cells; outer = outer });
        within = rw entries sound.run.within;
        ends = rw (end, entries) ends;
      };
    }
