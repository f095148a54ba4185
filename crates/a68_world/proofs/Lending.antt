-- A strand is taken out of the world, and is given back.
use Rattle.std.proofs.Common.{◌≡◌, ◌∙◌, ◌⊎◌, inl, inr, ℕ, zero, suc, ◌<◌, ◌≤◌, Bool, true, false, List, length, map, refl, ap, sym, subst, arith, true≢false}
use Rattle.std.proofs.Math.ListN.{length-set}
use Rattle.std.specs.Prelude.{None, Some, IfSome, slice_get, slice_set, if◌then◌else◌}
use Rattle.std.specs.Option.{is_some, option_map_or}
use Rattle.std.specs.declared.alloc.Global.{Global}
use Rattle.std.specs.declared.option.Option.{Option}
use Rattle.std.specs.declared.vec.Vec.{Vec}
use Rattle.a68_acts.specs.Store.{Store}
use Rattle.a68_acts.specs.declared.want.Reply.TheVariants as reply
use Rattle.a68_code.specs.declared.code.Code.{Code}
use Rattle.a68_exec.specs.Runs.{World, all_closed, has_closed, is_closed, woken}
use Rattle.a68_instructions.specs.Machine.{State, next_state, replied, settle}
use Rattle.a68_instructions.specs.declared.ask.Stance.{Stance}
use Rattle.a68_instructions.specs.declared.ask.Stance.TheVariants.{Idle, Asking, Failed, Waits, Closed}
use Rattle.a68_strand.proofs.Waking.{woken_closed, woken_still}
use Rattle.a68_strand.specs.Cyclic.{HasTurn}
use Rattle.a68_strand.specs.Ends.{RunEndsWith}
use Rattle.a68_strand.specs.Strands.{standing}
use Rattle.a68_strand.specs.declared.strand.Strand.{Strand}
use Rattle.a68_values.specs.declared.kept.End.{End}
use Rattle.a68_world.specs.Inside.{run_of, IsSound}
use Rattle.a68_world.specs.Leases.{IsReplay, IsDueToGo, Lends, BackOf}
use Rattle.a68_world.specs.Run.{AllHome, IsNumber, EndsWithoutTurn}
use Rattle.a68_world.specs.Seats.{Sits, SitsAt, AreSeated, all_closed_at, closed_at, closed_in, due_at, status_of}
use Rattle.a68_world.specs.Turns.{IsReady}
use Rattle.a68_world.specs.Waking.{GoesOnAt, WakesAt, WakesBy}
use Rattle.a68_world.specs.declared.seat.Seat.{Seat}
use Rattle.a68_world.specs.declared.seat.Seat.TheVariants as seat
use Rattle.a68_world.specs.declared.status.StrandState.{StrandState}
use Rattle.a68_world.specs.declared.status.StrandState.TheVariants as status
use Rattle.a68_world.specs.declared.world.World.TheInside.{Inside}
use Rattle.a68_world.proofs.Behind.{now, many_seats}
use Rattle.a68_world.proofs.Outcomes.{EndsBy, ends_parted, ends_whole, number_of}
use Rattle.a68_world.proofs.Places.{get_map, get_mapped, is_there, is_beyond, length_map, map_set, set_parted, set_same, set_twice}
use Rattle.a68_world.proofs.Rousing.{Due, all_closed_same, due_is, not_due, told_woken}
use Rattle.a68_world.proofs.Showing.{is_end, no-turn, no_act, next_fault, turn_there}
use Rattle.a68_world.proofs.Steady.{steady_run}

-- a strand with a turn has not closed
turn-open : (code : Code) (w : World) (n : ℕ) → HasTurn code w n → is_closed w.strands n ≡ false
turn-open code w n turn = let st = turn_there code w n turn in by st.0 st.1 st.0.stance refl
  where
    by : (st : State) → slice_get w.strands n ≡ Some st → (m : Stance) → st.stance ≡ m → is_closed w.strands n ≡ false
    by st there Closed e = absurd (no-turn code w n (no_act code w n st Closed there e) (next_fault w n st Closed there e) turn)
    by st there Idle e = ap (λ o. option_map_or (λ (x : State). has_closed x.stance) o false) there ∙ ap has_closed e
    by st there (Asking want wait) e = ap (λ o. option_map_or (λ (x : State). has_closed x.stance) o false) there ∙ ap has_closed e
    by st there (Failed why) e = ap (λ o. option_map_or (λ (x : State). has_closed x.stance) o false) there ∙ ap has_closed e
    by st there (Waits f c) e = ap (λ o. option_map_or (λ (x : State). has_closed x.stance) o false) there ∙ ap has_closed e

-- one seat is another
pub reseated : (code : Code) (strands : List State) (seats : List Seat) (n : ℕ) (y : Seat) → AreSeated code strands seats → SitsAt code strands n y → AreSeated code strands (slice_set seats n y)
reseated code strands seats n y seated mine k x e = elim (set_parted seats n k y x e) [
  | inl is ↦ subst (λ j. SitsAt code strands j x) (sym is.0) (subst (λ z. SitsAt code strands n z) (sym is.1) mine)
  | inr old ↦ seated k x old.1
]

module _ (s : Inside) (sound : IsSound s) where
  -- where a strand is that was not spent before
  spent-before : (n k : ℕ) (y : Seat) → (status_of y ≡ status.Spent → ⊥) → slice_get (map status_of (slice_set s.seats.items n y)) k ≡ Some status.Spent → IsNumber (run_of s) k status.Spent
  spent-before n k y ne e =
      let x = get_mapped status_of (slice_set s.seats.items n y) k status.Spent e in
      elim (set_parted s.seats.items n k y x.0 x.1) [
        | inl is ↦ absurd (ne (ap status_of (sym is.1) ∙ x.2))
        | inr old ↦ number_of s.seats.items k x.0 old.1 ∙ ap (λ (v : StrandState). Some v) x.2
      ]

  spent-else : (n k : ℕ) (y : Seat) → slice_get (map status_of (slice_set s.seats.items n y)) k ≡ Some status.Spent → ((k ≡ n) × (status_of y ≡ status.Spent)) ⊎ IsNumber (run_of s) k status.Spent
  spent-else n k y e =
      let x = get_mapped status_of (slice_set s.seats.items n y) k status.Spent e in
      elim (set_parted s.seats.items n k y x.0 x.1) [
        | inl is ↦ inl (is.0, ap status_of (sym is.1) ∙ x.2)
        | inr old ↦ inr (number_of s.seats.items k x.0 old.1 ∙ ap (λ (v : StrandState). Some v) x.2)
      ]

  many-set : (n : ℕ) (y : Seat) → length (map status_of (slice_set s.seats.items n y)) ≡ length (now s).strands
  many-set n y = length_map status_of (slice_set s.seats.items n y) ∙ length-set s.seats.items n y ∙ many_seats s sound

  there-set : (n : ℕ) (x y : Seat) → slice_get s.seats.items n ≡ Some x → slice_get (map status_of (slice_set s.seats.items n y)) n ≡ Some (status_of y)
  there-set n x y e = get_map status_of (slice_set s.seats.items n y) n y (set_same s.seats.items n x y e)

  -- ---- it is taken out

  module _ (n : ℕ) (strand : Strand) (unended : s.end ≡ None) (ready : IsReady (run_of s) n) (there : slice_get s.seats.items n ≡ Some (seat.Home strand)) (seats : Vec Seat Global)
      (placed : seats.items ≡ slice_set s.seats.items n (seat.Away false false)) where
    abbrev pub taken : Inside
    taken = record s { seats = seats }

    pub taken_sound : IsSound taken
    taken_sound = record {
      run = record {
        valid = sound.run.valid;
        short = sound.run.short;
        some_fuel = sound.run.some_fuel;
        little_fuel = sound.run.little_fuel;
        within = sound.run.within;
        runs = sound.run.runs;
        all = rw placed (many-set n (seat.Away false false));
        ended = sound.run.ended;
        goes_on = λ none home. absurd (let e = home n status.Lent (rw placed (there-set n (seat.Home strand) (seat.Away false false) there)) in cc);
        lost = sound.run.lost;
        spent = λ k e none. sound.run.spent k (spent-before n k (seat.Away false false) (λ x. absurd (cc)) (rw placed at e)) none;
      };
      room = sound.room;
      store = sound.store;
      seats = rw placed (reseated s.code (now s).strands s.seats.items n (seat.Away false false) sound.seats (sym (turn-open s.code (now s) n ready.turn)));
      passed = sound.passed;
      rests = sound.rests;
      kin = sound.kin;
      joined = sound.joined;
      enough = sound.enough;
    }

    pub taken_is : Lends (run_of s) n strand (run_of taken)
    taken_is =
        let sits : Sits s.code (now s).strands n strand = sound.seats n (seat.Home strand) there in
        let calm = (steady_run (run_of s) sound.run).calm in
        let still : woken s.code (now s).strands (standing strand) ≡ standing strand =
        woken_still s.code (now s).strands (standing strand) (calm.rests n (standing strand) sits.there) (λ f c w. calm.due n (standing strand) f c sits.there w) in
        record {
          unended = unended;
          ready = ready;
          number = sits.number;
          replay = record {
            stands = ap (slice_get (now s).strands) sits.number ∙ sits.there ∙ ap (λ (x : State). Some x) (sym still);
            rests = calm.rests n (standing strand) sits.there;
            shows = sits.shows;
            room = sits.room;
          };
          after =
              ap (λ (l : List StrandState). record { code = s.code; fuel = s.fuel; entries = s.journal.items; status = l; lost = s.lost; end = s.end })
              (ap (λ (l : List Seat). map status_of l) placed ∙ map_set status_of s.seats.items n (seat.Away false false));
        }

  -- ---- it is given back

  module _ (strand : Strand) (lent : IsNumber (run_of s) strand.number status.Lent) (at : Seat) (there : slice_get s.seats.items strand.number ≡ Some at) where
    -- a run with this seat, lost or not, with this end
    abbrev pub given : Vec Seat Global → Bool → Option End → Inside
    given seats lost end = record s { seats = seats; lost = lost; end = end }

    -- what is known of the seat, and of what is set
    pub record IsGiven (y : Seat) (seats : Vec Seat Global) (lost : Bool) (end : Option End) : Type 0 where
      pub placed : seats.items ≡ slice_set s.seats.items strand.number y
      pub sits : SitsAt s.code (now s).strands strand.number y
      pub here : (status_of y ≡ status.Home) ⊎ (status_of y ≡ status.Spent)
      pub ended : IfSome end (RunEndsWith s.code s.fuel s.journal.items (now s))
      pub goes_on : end ≡ None → AllHome (map status_of seats.items) → EndsWithoutTurn s.code (now s) None
      pub lost_on : lost ≡ true → end ≡ None
      pub kept : s.lost ≡ true → end ≡ None → lost ≡ true
      pub began : end ≡ None → s.end ≡ None
      pub gone : status_of y ≡ status.Spent → end ≡ None → lost ≡ true

    pub given_sound : (y : Seat) (seats : Vec Seat Global) (lost : Bool) (end : Option End) → IsGiven y seats lost end → IsSound (given seats lost end)
    given_sound y seats lost end g = record {
      run = record {
        valid = sound.run.valid;
        short = sound.run.short;
        some_fuel = sound.run.some_fuel;
        little_fuel = sound.run.little_fuel;
        within = sound.run.within;
        runs = sound.run.runs;
        all = ap (λ (l : List Seat). length (map status_of l)) g.placed ∙ many-set strand.number y;
        ended = g.ended;
        goes_on = g.goes_on;
        lost = g.lost_on;
        spent = λ k e none. elim (spent-else strand.number k y (sym (ap (λ (l : List Seat). slice_get (map status_of l) k) g.placed) ∙ e)) [
          | inl is ↦ g.gone is.1 none
          | inr old ↦ g.kept (sound.run.spent k old (g.began none)) none
        ];
      };
      room = sound.room;
      store = sound.store;
      seats = rw g.placed (reseated s.code (now s).strands s.seats.items strand.number y sound.seats g.sits);
      passed = sound.passed;
      rests = sound.rests;
      kin = sound.kin;
      joined = sound.joined;
      enough = sound.enough;
    }

    status-given : (y : Seat) (seats : Vec Seat Global) → seats.items ≡ slice_set s.seats.items strand.number y → map status_of seats.items ≡ slice_set (map status_of s.seats.items) strand.number (status_of y)
    status-given y seats placed = ap (λ (l : List Seat). map status_of l) placed ∙ map_set status_of s.seats.items strand.number y

    number-given : (y : Seat) (seats : Vec Seat Global) → seats.items ≡ slice_set s.seats.items strand.number y → slice_get (map status_of seats.items) strand.number ≡ Some (status_of y)
    number-given y seats placed = ap (λ (l : List Seat). slice_get (map status_of l) strand.number) placed ∙ there-set strand.number at y there

    -- ---- it is spent

    module _ (closed : Bool) (closes : closed ≡ is_closed (now s).strands strand.number) (seats : Vec Seat Global)
        (placed : seats.items ≡ slice_set s.seats.items strand.number (seat.Away true closed)) (lost : Bool) (goes : s.end ≡ None → lost ≡ true) (over : (e : End) → s.end ≡ Some e → lost ≡ s.lost) where
      lost-unended : (b : Bool) → lost ≡ b → (o : Option End) → s.end ≡ o → b ≡ true → s.end ≡ None
      lost-unended b is None e t = e
      lost-unended b is (Some x) e t = sound.run.lost (sym (over x e) ∙ is ∙ t)

      spent-given : IsGiven (seat.Away true closed) seats lost s.end
      spent-given = record {
        placed = placed;
        sits = closes;
        here = inr refl;
        ended = sound.run.ended;
        goes_on = λ none home. absurd (let e = home strand.number status.Spent (number-given (seat.Away true closed) seats placed) in cc);
        lost_on = λ e. lost-unended lost refl s.end refl e;
        kept = λ was none. goes none;
        began = λ none. none;
        gone = λ e none. goes none;
      }

      pub spent_sound : IsSound (given seats lost s.end)
      spent_sound = given_sound (seat.Away true closed) seats lost s.end spent-given

      pub spent_back : (none : Bool) → none ≡ true → BackOf (run_of s) strand none (run_of (given seats lost s.end))
      spent_back none is = record {
        same = (refl, refl);
        entries = refl;
        there = status.Spent;
        away = inr (refl, inl is);
        spent = λ e. refl;
        after = status-given (seat.Away true closed) seats placed;
        stays = λ e ended. ap (λ (b : Bool). record { code = s.code; fuel = s.fuel; entries = s.journal.items; status = map status_of seats.items; lost = b; end = s.end }) (over e ended);
        lost = λ old new e. goes old;
        kept = λ old new e. absurd (cc);
        ends = λ old. record {
          whole = λ home. absurd (let e = home strand.number status.Spent (number-given (seat.Away true closed) seats placed) in cc);
          parted = λ k where_ e away. old;
        };
      }

    -- ---- it is not

    module _ (replay : IsReplay s.code s.journal.items strand) where
      home-seats : List Seat
      home-seats = slice_set s.seats.items strand.number (seat.Home strand)

      calm-rests : (k : ℕ) (st : State) → slice_get (now s).strands k ≡ Some st → next_state s.code st ≡ None
      calm-rests = (steady_run (run_of s) sound.run).calm.rests

      -- the seats show what has closed
      closed-shown : (j : ℕ) → closed_at (slice_set s.seats.items strand.number (seat.Home strand)) j ≡ is_closed (now s).strands j
      closed-shown j = by (slice_get (slice_set s.seats.items strand.number (seat.Home strand)) j) refl
        where
          found : (st : State) → slice_get (now s).strands j ≡ Some st → is_closed (now s).strands j ≡ has_closed st.stance
          found st e = ap (λ o. option_map_or (λ (x : State). has_closed x.stance) o false) e

          here_ : strand.number ≡ j → has_closed (standing strand).stance ≡ is_closed (now s).strands j
          here_ e = sym (woken_closed s.code (now s).strands (standing strand) replay.rests) ∙ sym (found (woken s.code (now s).strands (standing strand)) (ap (slice_get (now s).strands) (sym e) ∙ replay.stands))

          else_ : (x : Seat) → SitsAt s.code (now s).strands j x → closed_in x ≡ is_closed (now s).strands j
          else_ (seat.Home t) p = sym (found (standing t) p.there)
          else_ (seat.Away spent closed) p = p

          by : (o : Option Seat) → slice_get (slice_set s.seats.items strand.number (seat.Home strand)) j ≡ o → option_map_or closed_in o false ≡ is_closed (now s).strands j
          by None e = elim (below j (length (now s).strands)) [
            | inl p ↦ let x = is_there (slice_set s.seats.items strand.number (seat.Home strand)) j (omega (arith, p, length-set s.seats.items strand.number (seat.Home strand), many_seats s sound)) in absurd (cc (x.1, e))
            | inr p ↦ sym (ap (λ o. option_map_or (λ (x : State). has_closed x.stance) o false) (is_beyond (now s).strands j p))
          ]
            where
              below : (k i : ℕ) → (k < i) ⊎ (i ≤ k)
              below zero zero = inr (omega arith)
              below zero (suc i) = inl (omega arith)
              below (suc k) zero = inr (omega arith)
              below (suc k) (suc i) = elim (below k i) [ inl p ↦ inl (omega (arith, p)) | inr p ↦ inr (omega (arith, p)) ]
          by (Some x) e = elim (set_parted s.seats.items strand.number j (seat.Home strand) x e) [
            | inl is ↦ ap closed_in is.1 ∙ here_ (sym is.0)
            | inr old ↦ else_ x (sound.seats j x old.1)
          ]

      all-shown : (f c : ℕ) → all_closed_at (slice_set s.seats.items strand.number (seat.Home strand)) f c ≡ all_closed (now s).strands f c
      all-shown f c = all_closed_same s.code (now s).strands calm-rests (slice_set s.seats.items strand.number (seat.Home strand)) closed-shown f c

      -- the seat behind it
      pub record Returned (seats : List Seat) (found : Bool) : Type 0 where
        pub y : Seat
        pub placed : seats ≡ slice_set s.seats.items strand.number y
        pub sits : SitsAt s.code (now s).strands strand.number y
        pub here : ((status_of y ≡ status.Home) × (found ≡ true)) ⊎ ((status_of y ≡ status.Spent) × (found ≡ false) × IsDueToGo (run_of s) strand)

      stays-home : due_at (slice_set s.seats.items strand.number (seat.Home strand)) strand.number ≡ false → Sits s.code (now s).strands strand.number strand
      stays-home e = record {
        number = refl;
        there =
            replay.stands
            ∙ ap (λ (x : State). Some x)
            (woken_still s.code (now s).strands (standing strand) replay.rests
            (λ f c w. sym (all-shown f c) ∙ not_due (slice_set s.seats.items strand.number (seat.Home strand)) strand.number f c strand (set_same s.seats.items strand.number at (seat.Home strand) there) e w));
        shows = replay.shows;
        room = replay.room;
      }

      woken-at : (d : Due (slice_set s.seats.items strand.number (seat.Home strand)) strand) → woken s.code (now s).strands (standing strand) ≡ settle s.code (replied s.code (standing strand) reply.Go)
      woken-at d = told_woken s.code (now s).strands calm-rests (standing strand) d.first d.count d.waits (sym (all-shown d.first d.count) ∙ d.closed)

      due-goes : (d : Due (slice_set s.seats.items strand.number (seat.Home strand)) strand) → IsDueToGo (run_of s) strand
      due-goes d = record { first = d.first; count = d.count; waits = d.waits; closed = sym (all-shown d.first d.count) ∙ d.closed }

      told-seat : (d : Due (slice_set s.seats.items strand.number (seat.Home strand)) strand) (y : Seat) (found : Bool) → GoesOnAt s.code (seat.Home strand) y found
          → SitsAt s.code (now s).strands strand.number y × (((status_of y ≡ status.Home) × (found ≡ true)) ⊎ ((status_of y ≡ status.Spent) × (found ≡ false) × IsDueToGo (run_of s) strand))
      told-seat d (seat.Home next) true g = (
        record {
          number = g.1;
          there = replay.stands ∙ ap (λ (x : State). Some x) (woken-at d ∙ sym g.0.state);
          shows = record { ask = g.0.ask; place = g.0.place };
          room = g.2 replay.room;
        },
        inl (refl, refl),
      )
      told-seat d (seat.Home next) false g = absurd g
      told-seat d (seat.Away spent closed) true g = absurd g
      told-seat d (seat.Away spent closed) false g = (
        g.1
            ∙ sym (ap (λ o. option_map_or (λ (x : State). has_closed x.stance) o false) replay.stands ∙ woken_closed s.code (now s).strands (standing strand) replay.rests ∙ ap has_closed d.waits),
        inr (ap (λ b. if b then status.Spent else status.Lent) g.0, refl, due-goes d),
      )

      pub returned : (seats : List Seat) (found : Bool) → WakesAt s.code strand.number (slice_set s.seats.items strand.number (seat.Home strand)) seats found → Returned seats found
      returned seats found w = by (due_at (slice_set s.seats.items strand.number (seat.Home strand)) strand.number) refl w
        where
          mine : slice_get (slice_set s.seats.items strand.number (seat.Home strand)) strand.number ≡ Some (seat.Home strand)
          mine = set_same s.seats.items strand.number at (seat.Home strand) there

          by : (b : Bool) → due_at (slice_set s.seats.items strand.number (seat.Home strand)) strand.number ≡ b
              → WakesBy b s.code strand.number (slice_set s.seats.items strand.number (seat.Home strand)) seats found → Returned seats found
          by false e w = record { y = seat.Home strand; placed = w.0; sits = stays-home e; here = inl (refl, w.1) }
          by true e w =
              let d = due_is (slice_set s.seats.items strand.number (seat.Home strand)) strand.number e in
              let some : Some (seat.Home d.0) ≡ Some (seat.Home strand) = sym d.1 ∙ mine in
              let is : d.0 ≡ strand = cc in
              let due : Due (slice_set s.seats.items strand.number (seat.Home strand)) strand = subst (λ (t : Strand). Due (slice_set s.seats.items strand.number (seat.Home strand)) t) is d.2 in
              let seat_is : Some w.0 ≡ Some (seat.Home strand) = sym w.2 ∙ mine in
              let same : w.0 ≡ seat.Home strand = cc in
              let told = told-seat due w.1 found (subst (λ (z : Seat). GoesOnAt s.code z w.1 found) same w.3) in
              record { y = w.1; placed = w.4 ∙ set_twice s.seats.items strand.number (seat.Home strand) w.1; sits = told.0; here = told.1 }

      here-at : (seats : List Seat) (found : Bool) (r : Returned seats found) → (status_of r.y ≡ status.Home) ⊎ (status_of r.y ≡ status.Spent)
      here-at seats found r = elim r.here [ inl p ↦ inl p.0 | inr p ↦ inr p.0 ]

      away-at : (seats : List Seat) (found none : Bool) (r : Returned seats found) → (status_of r.y ≡ status.Home) ⊎ ((status_of r.y ≡ status.Spent) × ((none ≡ true) ⊎ IsDueToGo (run_of s) strand))
      away-at seats found none r = elim r.here [ inl p ↦ inl p.0 | inr p ↦ inr (p.0, inr p.2) ]

      -- the run had ended
      module _ (seats : Vec Seat Global) (found : Bool) (r : Returned seats.items found) (x : End) (ended : s.end ≡ Some x) where
        pub over_sound : IsSound (given seats s.lost s.end)
        over_sound = given_sound r.y seats s.lost s.end (record {
          placed = r.placed;
          sits = r.sits;
          here = here-at seats.items found r;
          ended = sound.run.ended;
          goes_on = λ none home. absurd (cc (none, ended));
          lost_on = sound.run.lost;
          kept = λ was none. was;
          began = λ none. none;
          gone = λ e none. absurd (cc (none, ended));
        })

        pub over_back : (none : Bool) → none ≡ false → BackOf (run_of s) strand none (run_of (given seats s.lost s.end))
        over_back none is = record {
          same = (refl, refl);
          entries = refl;
          there = status_of r.y;
          away = away-at seats.items found none r;
          spent = λ e. absurd (true≢false (sym e ∙ is));
          after = status-given r.y seats r.placed;
          stays = λ e f. refl;
          lost = λ old new e. absurd (cc (old, ended));
          kept = λ old new e. refl;
          ends = λ old. absurd (cc (old, ended));
        }

      -- it goes on
      module _ (seats : Vec Seat Global) (found : Bool) (r : Returned seats.items found) (unended : s.end ≡ None) (end : Option End) (ends : EndsBy seats.items s.store end)
          (lost : Bool) (is : lost ≡ (if is_some end then false else if found then s.lost else true)) where
        lost-none : (o : Option End) → end ≡ o → o ≡ None → lost ≡ (if found then s.lost else true)
        lost-none None e n = is ∙ ap (λ o. if is_some o then false else if found then s.lost else true) e
        lost-none (Some x) e n = absurd (cc)

        on-lost : end ≡ None → lost ≡ (if found then s.lost else true)
        on-lost n = lost-none end refl n

        lost-ends : (o : Option End) → end ≡ o → lost ≡ true → end ≡ None
        lost-ends None e t = e
        lost-ends (Some x) e t = absurd (true≢false (sym t ∙ is ∙ ap (λ o. if is_some o then false else if found then s.lost else true) e))

        long-seats : length seats.items ≡ length (now s).strands
        long-seats = ap (λ (l : List Seat). length l) r.placed ∙ length-set s.seats.items strand.number r.y ∙ many_seats s sound

        seated-now : AreSeated s.code (now s).strands seats.items
        seated-now = rw r.placed (reseated s.code (now s).strands s.seats.items strand.number r.y sound.seats r.sits)

        whole : AllHome (map status_of seats.items) → EndsWithoutTurn s.code (now s) end
        whole home = ends_whole s.code (now s) seats.items end seated-now long-seats (subst (λ (t : Store). EndsBy seats.items t end) sound.store ends) home

        home-by : (e : End) → end ≡ Some e → AllHome (map status_of seats.items)
        home-by e some k status.Home g = refl
        home-by e some k status.Lent g = let none = ends_parted seats.items s.store end ends k status.Lent g (λ x. absurd (cc)) in absurd (cc (some, none))
        home-by e some k status.Spent g = let none = ends_parted seats.items s.store end ends k status.Spent g (λ x. absurd (cc)) in absurd (cc (some, none))

        ended-by : (o : Option End) → end ≡ o → IfSome end (RunEndsWith s.code s.fuel s.journal.items (now s))
        ended-by None e = rw e tt
        ended-by (Some x) e = is_end s.code s.fuel s.journal.items (now s) end (whole (home-by x e))

        found-none : (b : Bool) → found ≡ b → b ≡ false → (if found then s.lost else true) ≡ true
        found-none true e f = absurd (true≢false f)
        found-none false e f = ap (λ b. if b then s.lost else true) e

        found-kept : (b : Bool) → s.lost ≡ true → (if b then s.lost else true) ≡ true
        found-kept true e = e
        found-kept false e = refl

        gone-lost : status_of r.y ≡ status.Spent → end ≡ None → lost ≡ true
        gone-lost e n = elim r.here [
          | inl p ↦ absurd (cc (p.0, e))
          | inr p ↦ on-lost n ∙ found-none found refl p.1
        ]

        pub back_sound : IsSound (given seats lost end)
        back_sound = given_sound r.y seats lost end (record {
          placed = r.placed;
          sits = r.sits;
          here = here-at seats.items found r;
          ended = ended-by end refl;
          goes_on = λ none home. subst (λ o. EndsWithoutTurn s.code (now s) o) none (whole home);
          lost_on = λ e. lost-ends end refl e;
          kept = λ was none. on-lost none ∙ found-kept found was;
          began = λ none. unended;
          gone = gone-lost;
        })

        pub back_is : (none : Bool) → none ≡ false → BackOf (run_of s) strand none (run_of (given seats lost end))
        back_is none it = record {
          same = (refl, refl);
          entries = refl;
          there = status_of r.y;
          away = away-at seats.items found none r;
          spent = λ e. absurd (true≢false (sym e ∙ it));
          after = status-given r.y seats r.placed;
          stays = λ e f. absurd (cc (f, unended));
          lost = λ old new e. gone-lost e new;
          kept = λ old new e. elim r.here [
            | inl p ↦ on-lost new ∙ ap (λ b. if b then s.lost else true) p.1
            | inr p ↦ absurd (cc (p.0, e))
          ];
          ends = λ old. record { whole = whole; parted = λ k where_ g away. ends_parted seats.items s.store end ends k where_ g away };
        }
