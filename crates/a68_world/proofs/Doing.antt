-- A turn in which a strand does its act.
use Rattle.std.proofs.Common.{◌≡◌, ◌∙◌, ℕ, ◌<◌, ◌^◌, Bool, true, List, ◌++◌, length, map, get_or, refl, ap, sym, subst, arith}
use Rattle.std.proofs.lemmas.Option.{slice_get-get_or}
use Rattle.std.specs.Prelude.{Some, slice_get, slice_set}
use Rattle.std.specs.Option.{option_map}
use Rattle.std.specs.declared.alloc.Global.{Global}
use Rattle.std.specs.declared.option.Option.{Option}
use Rattle.std.specs.declared.vec.Vec.{Vec}
use Rattle.a68_acts.specs.Does.{refused, does}
use Rattle.a68_acts.specs.Store.{Store}
use Rattle.a68_instructions.specs.Machine.{State, replied}
use Rattle.a68_instructions.specs.Machine as machine
use Rattle.a68_exec.specs.Runs.{woken}
use Rattle.a68_rests.specs.Resting.{IsListed, Resting}
use Rattle.a68_strand.specs.Strands.{standing}
use Rattle.a68_instructions.specs.declared.ask.Stance.TheVariants.{Asking}
use Rattle.a68_strand.specs.declared.strand.Strand.{Strand}
use Rattle.a68_values.specs.Logs.{Logged}
use Rattle.a68_values.specs.declared.act.Act.{Act}
use Rattle.a68_values.specs.declared.act.FaultKind.{FaultKind}
use Rattle.a68_values.specs.declared.kept.End.{End}
use Rattle.a68_values.specs.declared.kept.End.TheVariants as ends
use Rattle.a68_world.specs.Inside.{run_of, IsSound}
use Rattle.a68_world.specs.Kin.{AreKin, Forks, WakesBehind}
use Rattle.a68_world.specs.Passed.{PassTurns}
use Rattle.a68_world.specs.Resting.{HaveRest, RestsBehind, written}
use Rattle.a68_world.specs.Run.{IsSoundRun}
use Rattle.a68_world.specs.Seats.{AreSeated, Sits, place_in, status_of}
use Rattle.a68_world.specs.Stepping.{DoneFor, ComesToAt, Meets, AreUnitsAt}
use Rattle.a68_world.specs.Turns.{GoesOn, IsDue, IsOtherDue, Acts, EndsAt, FindsNoMemory}
use Rattle.a68_world.specs.declared.deed.Deed.TheVariants as deed
use Rattle.a68_world.specs.declared.kin.Kin.{Kin}
use Rattle.a68_world.specs.declared.seat.Seat.{Seat}
use Rattle.a68_world.specs.declared.seat.Seat.TheVariants as seat
use Rattle.a68_world.specs.declared.world.World.TheInside.{Inside}
use Rattle.a68_world.proofs.Behind as b
use Rattle.a68_world.proofs.Behind.{Moved, Noted, now}
use Rattle.a68_world.proofs.Outcomes.{EndsBy, home_wakes, sits_told, told_acts, told_sound, untold_is, untold_sound}
use Rattle.a68_world.specs.declared.status.StrandState.TheVariants as status
use Rattle.a68_world.proofs.Places.{is_within, set_again, length_map}
use Rattle.a68_world.proofs.RestKept.{rest_behind, rest_turns}
use Rattle.a68_world.proofs.Showing.{asking, next_fault}
use Rattle.a68_world.proofs.Standing.{due_other}
use Rattle.a68_world.proofs.Steady.{steady_run, steady_more}

-- the seat that the code borrows
pub seat_there : (seats before : List Seat) (n : ℕ) (x : Seat) → before ≡ seats → n < length seats → x ≡ get_or before n x → slice_get seats n ≡ Some x
seat_there seats before n x same h e =
    let h2 : n < length before = omega (arith, h, ap (λ l. length l) same) in
    sym (ap (λ l. slice_get l n) same) ∙ slice_get-get_or before n x h2 ∙ ap (λ y. Some y) (sym e)

-- a run whose parts stay as they were
pub left_sound : (s : Inside) → IsSound s → (store : Store) (seats : Vec Seat Global) (kin : Vec Kin Global) → store ≡ s.store → seats.items ≡ s.seats.items → kin.items ≡ s.kin.items
    → IsSound (record s { store = store; seats = seats; kin = kin })
left_sound s sound store seats kin e f g = record {
  run = subst (λ (l : List Seat). IsSoundRun (record { code = s.code; fuel = s.fuel; entries = s.journal.items; status = map status_of l; lost = s.lost; end = s.end })) (sym f) sound.run;
  room = sound.room;
  store = e ∙ sound.store;
  seats = subst (λ (l : List Seat). AreSeated s.code (now s).strands l) (sym f) sound.seats;
  passed = sound.passed;
  rests = subst (λ (x : Store). HaveRest s.rests (now s).strands x) (sym e) sound.rests;
  kin = subst (λ (l : List Kin). AreKin l (now s).strands) (sym g) sound.kin;
  joined = sound.joined;
  enough = sound.enough;
}

module _ (s : Inside) (n : ℕ) (sound : IsSound s) (goes : GoesOn (run_of s)) (due : IsDue (run_of s) n) where
  abbrev moved : (strand : Strand) (act : Act) (store : Store) (units : List Seat) → slice_get s.seats.items n ≡ Some (seat.Home strand) → AreUnitsAt s.code s.store s.seats.items n units
      → DoneFor s.store strand act store → Moved s n act store units
  moved strand act store units there are d =
      record { sound = sound; goes = goes; where_ = status.Home; ready = due.ready; fuel = due.fuel; strand = strand; at = seat.Home strand; there = there; sits = sound.seats n (seat.Home strand) there; act_done = d; are = are strand there }

  -- ---- the strand has been told

  -- what the calls gave
  pub record Told (x y : Seat) (act : Act) (store : Store) (units : List Seat) : Type 0 where
    pub there : slice_get s.seats.items n ≡ Some x
    pub are : AreUnitsAt s.code s.store s.seats.items n units
    pub comes : ComesToAt s.code s.store x (deed.Told act) store y

  abbrev pub run_told : Logged → Store → Vec Seat Global → Resting → Vec Kin Global → Bool → Option End → Inside
  run_told journal store seats rested kin lost end = record s { journal = journal; store = store; seats = seats; rests = rested; kin = kin; lost = lost; end = end }

  -- what is known of those that made others, and of those that are woken
  pub record Woken (y : Seat) (units : List Seat) (seats : List Seat) (kin : List Kin) (lost : Bool) : Type 0 where
    pub grown : List Kin
    pub forks : Forks s.kin.items n (length units) grown
    pub wakes : WakesBehind s.code n grown kin (slice_set s.seats.items n y ++ units) seats lost

  told-all : (x y : Seat) (act : Act) (store : Store) (units : List Seat) (journal : Logged) (seats : Vec Seat Global) (rested : Resting) (kin : Vec Kin Global) (lost : Bool) (end : Option End)
      → slice_get s.seats.items n ≡ Some x → AreUnitsAt s.code s.store s.seats.items n units → ComesToAt s.code s.store x (deed.Told act) store y → Noted s n act journal
      → Woken y units seats.items kin.items lost → RestsBehind (written act) n kin.items seats.items store s.rests rested → EndsBy seats.items store end
      → IsSound (run_told journal store seats rested kin lost end) × Acts (run_of s) n (run_of (run_told journal store seats rested kin lost end))
  told-all (seat.Home strand) (seat.Home t) act store units journal seats rested kin lost end there are comes noted w behind e =
      let m = moved strand act store units there are comes.act_done in
      let sits = sits_told s n act store units m t comes.settled comes.number comes.room refl in
      let wakes = home_wakes s n act store units m t comes.settled comes.number comes.room refl w.grown kin.items seats.items lost (b.kin_all s n act store units m w.grown w.forks) w.wakes in (
        told_sound s n act store units m (seat.Home t) refl sits journal seats kin lost end noted wakes.1 wakes.0 e rested behind,
        told_acts s n act store units m (seat.Home t) refl sits journal seats kin lost end noted wakes.1 wakes.0 e rested behind,
      )
  told-all (seat.Home strand) (seat.Away spent closed) act store units journal seats rested kin lost end there are comes noted w behind e = absurd comes
  told-all (seat.Away spent closed) y act store units journal seats rested kin lost end there are comes noted w behind e = absurd comes

  pub told_all : (x y : Seat) (act : Act) (store : Store) (units shown : List Seat) (journal : Logged) (seats : Vec Seat Global) (rested : Resting) (kin : Vec Kin Global) (lost : Bool) (end : Option End)
      → Told x y act store units → Noted s n act journal → Woken y units seats.items kin.items lost → RestsBehind (written act) n kin.items seats.items store s.rests rested → shown ≡ seats.items → EndsBy shown store end
      → IsSound (run_told journal store seats rested kin lost end) × Acts (run_of s) n (run_of (run_told journal store seats rested kin lost end))
  told_all x y act store units shown journal seats rested kin lost end told noted w behind same e =
      told-all x y act store units journal seats rested kin lost end told.there told.are told.comes noted w behind (subst (λ l. EndsBy l store end) same e)

  -- there are numbers for all, the strand is one of them, and none that rests shows a turn
  told-seats : (x y : Seat) (act : Act) (store : Store) (units seats : List Seat) (kin : List Kin) (lost : Bool)
      → slice_get s.seats.items n ≡ Some x → AreUnitsAt s.code s.store s.seats.items n units → ComesToAt s.code s.store x (deed.Told act) store y → Woken y units seats kin lost
      → (length seats < 2 ^ 32) × (n < length seats) × ((rested : Resting) → RestsBehind (written act) n kin seats store s.rests rested → PassTurns rested seats store)
  told-seats (seat.Home strand) (seat.Home t) act store units seats kin lost there are comes w =
      let m = moved strand act store units there are comes.act_done in
      let both = home_wakes s n act store units m t comes.settled comes.number comes.room refl w.grown kin seats lost (b.kin_all s n act store units m w.grown w.forks) w.wakes in
      let wakes = both.0 in
      let st = steady_more s.code (length s.journal.items) (now s) n act (b.behind s n act store units m) (steady_run (run_of s) sound.run) (b.next_is s n act store units m) in (
        omega (arith, wakes.long, st.many, st.most, length_map (woken s.code (b.all s n act store units m)) (b.all s n act store units m)),
        omega (arith, wakes.long, is_within (b.all s n act store units m) n (b.next s n act store units m) (b.there_next s n act store units m)),
        λ rested behind. rest_turns s.code (map (woken s.code (b.all s n act store units m)) (b.all s n act store units m)) seats store rested wakes.seated
            (rest_behind s n act store units m rested kin seats behind both.1 wakes.seated wakes.long),
      )
  told-seats (seat.Home strand) (seat.Away spent closed) act store units seats kin lost there are comes w = absurd comes
  told-seats (seat.Away spent closed) y act store units seats kin lost there are comes w = absurd comes

  pub told_few : (x y : Seat) (act : Act) (store : Store) (units shown seats : List Seat) (kin : List Kin) (lost : Bool) → Told x y act store units → Woken y units seats kin lost → shown ≡ seats
      → (length shown < 2 ^ 32) × (n < length shown)
  told_few x y act store units shown seats kin lost told w same =
      let t = told-seats x y act store units seats kin lost told.there told.are told.comes w in
      (omega (arith, t.0, ap (λ l. length l) same), omega (arith, t.1, ap (λ l. length l) same))

  pub told_shown : (x y : Seat) (act : Act) (store : Store) (units shown seats : List Seat) (kin : List Kin) (lost : Bool) (rested : Resting) → Told x y act store units → Woken y units seats kin lost
      → RestsBehind (written act) n kin seats store s.rests rested → shown ≡ seats → (length shown < 2 ^ 32) × PassTurns rested shown store
  told_shown x y act store units shown seats kin lost rested told w behind same =
      let t = told-seats x y act store units seats kin lost told.there told.are told.comes w in
      (omega (arith, t.0, ap (λ l. length l) same), subst (λ l. PassTurns rested l store) (sym same) (t.2 rested behind))

  -- ---- there was no memory to tell it

  abbrev pub run_untold : Logged → Store → Vec Seat Global → Resting → Vec Kin Global → Inside
  run_untold journal store seats rested kin = record s { journal = journal; store = store; seats = seats; rests = rested; kin = kin; lost = true }

  pub untold_all : (x y : Seat) (act : Act) (store : Store) (units : List Seat) (journal : Logged) (seats : Vec Seat Global) (rested : Resting) (kin : Vec Kin Global) → ((k : ℕ) → IsListed rested k → ⊥)
      → slice_get s.seats.items n ≡ Some x → AreUnitsAt s.code s.store s.seats.items n units → ComesToAt s.code s.store x (deed.Untold act) store y → Noted s n act journal
      → Forks s.kin.items n (length units) kin.items → seats.items ≡ slice_set s.seats.items n y ++ units
      → IsSound (run_untold journal store seats rested kin) × FindsNoMemory (run_of s) n (run_of (run_untold journal store seats rested kin))
  untold_all (seat.Home strand) (seat.Away spent closed) act store units journal seats rested kin none_rest there are comes noted forks is =
      let m = moved strand act store units there are comes.0.act_done in
      let at = is ∙ ap (λ (z : Seat). slice_set s.seats.items n z ++ units) (ap (λ b. seat.Away b closed) comes.1 ∙ ap (seat.Away true) comes.2) in (
        untold_sound s n act store units m comes.0.live comes.0.memory refl journal seats kin noted forks at rested none_rest,
        untold_is s n act store units m comes.0.live comes.0.memory refl journal seats kin noted forks at rested none_rest,
      )
  untold_all (seat.Home strand) (seat.Home t) act store units journal seats rested kin none_rest there are comes noted forks is = absurd comes
  untold_all (seat.Away spent closed) y act store units journal seats rested kin none_rest there are comes noted forks is = absurd comes

  -- ---- the act is not done

  -- it meets a fault
  pub fault_here : (strand : Strand) (why : FaultKind) (place : ℕ) → slice_get s.seats.items n ≡ Some (seat.Home strand) → Meets s.store strand why → place ≡ strand.place
      → EndsAt (run_of s) n (ends.Fault why place n)
  fault_here strand why place there meets is =
      let sits : Sits s.code (now s).strands n strand = sound.seats n (seat.Home strand) there in
      let x = asking strand meets.want meets.asks in (
        refl,
        next_fault (now s) n (standing strand) (Asking meets.want x.0) sits.there x.1 ∙ ap refused (ap (does meets.want) (sym sound.store) ∙ meets.refused),
        ap (option_map (λ (st : State). machine.place_at s.code.list st.at)) sits.there ∙ ap (λ p. Some p) (sym sits.shows.place ∙ sym is),
      )

  pub refused_left : (x y : Seat) (why : FaultKind) (store : Store) → slice_get s.seats.items n ≡ Some x → ComesToAt s.code s.store x (deed.Refused why) store y
      → (store ≡ s.store) × (slice_set s.seats.items n y ≡ s.seats.items)
  refused_left (seat.Home strand) y why store there comes = (comes.0, ap (slice_set s.seats.items n) comes.1 ∙ set_again s.seats.items n (seat.Home strand) there)
  refused_left (seat.Away spent closed) y why store there comes = absurd comes

  pub refused_ends : (x y : Seat) (why : FaultKind) (store : Store) (place : ℕ) → slice_get s.seats.items n ≡ Some x → ComesToAt s.code s.store x (deed.Refused why) store y
      → place ≡ place_in x → EndsAt (run_of s) n (ends.Fault why place n)
  refused_ends (seat.Home strand) y why store place there comes is = fault_here strand why place there comes.2 is
  refused_ends (seat.Away spent closed) y why store place there comes is = absurd comes

  pub unfound_left : (x y : Seat) (store : Store) → slice_get s.seats.items n ≡ Some x → ComesToAt s.code s.store x deed.NoMemory store y
      → (store ≡ s.store) × (slice_set s.seats.items n y ≡ s.seats.items)
  unfound_left (seat.Home strand) y store there comes = (comes.0, ap (slice_set s.seats.items n) comes.1 ∙ set_again s.seats.items n (seat.Home strand) there)
  unfound_left (seat.Away spent closed) y store there comes = absurd comes

  pub unfound_wants : (x y : Seat) (store : Store) → slice_get s.seats.items n ≡ Some x → ComesToAt s.code s.store x deed.NoMemory store y → IsOtherDue (run_of s) n
  unfound_wants (seat.Home strand) y store there comes = due_other s sound n strand there due comes.2
  unfound_wants (seat.Away spent closed) y store there comes = absurd comes
