use Rattle.std.proofs.Common.{◌≡◌, ◌∙◌, ◌++◌, List, Some, ap, sym, subst, length, map, slice_get, slice_set, arith}
use Rattle.std.specs.Option.{option_map_or}
use Rattle.std.specs.Vec.{with_item}
use Rattle.a68_world.specs.Inside.{run_of}
use Rattle.a68_world.specs.Kin.{Forks, WakesBehind}
use Rattle.a68_world.specs.Resting.{RestsBehind, written}
use Rattle.a68_world.specs.Run.{Run}
use Rattle.a68_world.specs.Seats.{place_at, place_in, status_of}
use Rattle.a68_world.specs.Turns.{GoesOn, IsDue, TurnOf, IsOtherDue}
use Rattle.a68_world.specs.declared.seat.Seat.{Seat}
use Rattle.a68_world.specs.declared.seat.Seat.TheVariants as seat
use Rattle.a68_world.specs.declared.status.StrandState.{StrandState}
use Rattle.a68_world.proofs.Behind.{Noted}
use Rattle.a68_world.proofs.Doing.{Told, left_sound, Woken, seat_there, told_all, told_few, told_shown, run_told, untold_all, refused_left, refused_ends, unfound_left, unfound_wants}
use Rattle.a68_world.proofs.Closing.{with_passed}
use Rattle.a68_world.proofs.Places.{is_within}
use Rattle.a68_world.proofs.Standing.{due_other, seat_home, few_number, few_units, few_frames, asking_at}
use Rattle.a68_world.proofs.world.World.do_act.Goals as goal

pub units_ready-requires-clause-numbers : goal.units_ready-requires-clause-numbers
units_ready-requires-clause-numbers c =
    let s = c.self.inside in
    let n = c.args.n in
    let due : IsDue (run_of s) n = subst (λ (r : Run). IsDue r n) (sym c.self.view_is) c.requires.due in
    let h = seat_home s.seats.items n due.ready.home in
    few_units s c.self.invariant n h.0 h.1

pub lose-requires-clause-due : goal.lose-requires-clause-due
lose-requires-clause-due c =
    let s = c.self.inside in
    let n = c.args.n in
    let due : IsDue (run_of s) n = subst (λ (r : Run). IsDue r n) (sym c.self.view_is) c.requires.due in
    let h = seat_home s.seats.items n due.ready.home in
    let wanted : IsOtherDue (run_of s) n = due_other s c.self.invariant n h.0 h.1 due (c.in_default.ensures.err h.0 h.1) in
    subst (λ (l : List Seat). IsOtherDue (record { code = s.code; fuel = s.fuel; entries = s.journal.items; status = map status_of l; lost = s.lost; end = s.end }) n) (sym c.units_ready.ensures.same) wanted

pub index_mut-requires : goal.index_mut-requires
index_mut-requires c =
    let s = c.self.inside in
    let n = c.args.n in
    let due : IsDue (run_of s) n = subst (λ (r : Run). IsDue r n) (sym c.self.view_is) c.requires.due in
    let h = seat_home s.seats.items n due.ready.home in
    omega (arith, is_within s.seats.items n (seat.Home h.0) h.1, ap (λ (l : List Seat). length l) c.units_ready.ensures.same, c.units_ready.new.seats.ok.0)

pub note-requires-clause-few : goal.note-requires-clause-few
note-requires-clause-few c =
    let s = c.self.inside in
    let n = c.args.n in
    let due : IsDue (run_of s) n = subst (λ (r : Run). IsDue r n) (sym c.self.view_is) c.requires.due in
    let h = seat_home s.seats.items n due.ready.home in
    few_number s c.self.invariant n h.0 h.1

pub note-requires-in-Untold-clause-few : goal.note-requires-in-Untold-clause-few
note-requires-in-Untold-clause-few c =
    let s = c.self.inside in
    let n = c.args.n in
    let due : IsDue (run_of s) n = subst (λ (r : Run). IsDue r n) (sym c.self.view_is) c.requires.due in
    let h = seat_home s.seats.items n due.ready.home in
    few_number s c.self.invariant n h.0 h.1

pub act_at-requires-clause-frames : goal.act_at-requires-clause-frames
act_at-requires-clause-frames c =
    let s = c.self.inside in
    let n = c.args.n in
    let due : IsDue (run_of s) n = subst (λ (r : Run). IsDue r n) (sym c.self.view_is) c.requires.due in
    let h = seat_home s.seats.items n due.ready.home in
    few_frames s c.self.invariant due.fuel

pub act_at-requires-clause-asking : goal.act_at-requires-clause-asking
act_at-requires-clause-asking c =
    let s = c.self.inside in
    let n = c.args.n in
    let due : IsDue (run_of s) n = subst (λ (r : Run). IsDue r n) (sym c.self.view_is) c.requires.due in
    let h = seat_home s.seats.items n due.ready.home in
    let same = c.units_ready.ensures.same in
    let x = c.index_mut.result.now in
    let there : slice_get s.seats.items n ≡ Some x = seat_there s.seats.items c.units_ready.new.seats.items n x same (is_within s.seats.items n (seat.Home h.0) h.1) c.index_mut.ensures.value in
    asking_at s c.self.invariant n h.0 h.1 due x there

pub rest_behind-requires : goal.rest_behind-requires
rest_behind-requires c =
    let s = c.self.inside in
    let n = c.args.n in
    let due : IsDue (run_of s) n = subst (λ (r : Run). IsDue r n) (sym c.self.view_is) c.requires.due in
    let h = seat_home s.seats.items n due.ready.home in
    let goes : GoesOn (run_of s) = subst (λ (r : Run). GoesOn r) (sym c.self.view_is) c.requires.goes_on in
    let same = c.units_ready.ensures.same in
    let x = c.index_mut.result.now in
    let there : slice_get s.seats.items n ≡ Some x = seat_there s.seats.items c.units_ready.new.seats.items n x same (is_within s.seats.items n (seat.Home h.0) h.1) c.index_mut.ensures.value in
    let y = c.act_at.new.seat in
    let units = c.in-Ok.units.items in
    let store = c.act_at.new.store in
    let told : Told s n c.self.invariant goes due x y c.in-Told.act store units = record { there = there; are = c.in-Ok.ensures.units; comes = c.in-Told.ensures } in
    let placed : c.seat_all.new.seats.items ≡ slice_set s.seats.items n y ++ units = c.seat_all.ensures.seats ∙ ap (λ l. slice_set l n y ++ units) same in
    let seats = c.wake_behind-self-inside.new.seats in
    let kin = c.wake_behind-self-inside.new.kin in
    let lost = c.wake_behind-self-inside.result in
    let woken : Woken s n c.self.invariant goes due y units seats.items kin.items lost = record {
      grown = c.seat_all.new.kin.items;
      forks = subst (λ l. Forks l n (length units) c.seat_all.new.kin.items) c.units_ready.ensures.same_kin c.seat_all.ensures.kin;
      wakes = subst (λ l. WakesBehind s.code n c.seat_all.new.kin.items kin.items l seats.items lost) placed c.wake_behind-self-inside.ensures;
    } in
    let numbers = told_few s n c.self.invariant goes due x y c.in-Told.act store units c.deref-in-Told.result.now seats.items kin.items lost told woken c.deref-in-Told.ensures.value in
    record { few = numbers.0; within = numbers.1 }

pub end_behind-self-inside-requires : goal.end_behind-self-inside-requires
end_behind-self-inside-requires c =
    let s = c.self.inside in
    let n = c.args.n in
    let due : IsDue (run_of s) n = subst (λ (r : Run). IsDue r n) (sym c.self.view_is) c.requires.due in
    let h = seat_home s.seats.items n due.ready.home in
    let goes : GoesOn (run_of s) = subst (λ (r : Run). GoesOn r) (sym c.self.view_is) c.requires.goes_on in
    let same = c.units_ready.ensures.same in
    let x = c.index_mut.result.now in
    let there : slice_get s.seats.items n ≡ Some x = seat_there s.seats.items c.units_ready.new.seats.items n x same (is_within s.seats.items n (seat.Home h.0) h.1) c.index_mut.ensures.value in
    let y = c.act_at.new.seat in
    let units = c.in-Ok.units.items in
    let store = c.act_at.new.store in
    let told : Told s n c.self.invariant goes due x y c.in-Told.act store units = record { there = there; are = c.in-Ok.ensures.units; comes = c.in-Told.ensures } in
    let placed : c.seat_all.new.seats.items ≡ slice_set s.seats.items n y ++ units = c.seat_all.ensures.seats ∙ ap (λ l. slice_set l n y ++ units) same in
    let seats = c.wake_behind-self-inside.new.seats in
    let kin = c.wake_behind-self-inside.new.kin in
    let lost = c.wake_behind-self-inside.result in
    let woken : Woken s n c.self.invariant goes due y units seats.items kin.items lost = record {
      grown = c.seat_all.new.kin.items;
      forks = subst (λ l. Forks l n (length units) c.seat_all.new.kin.items) c.units_ready.ensures.same_kin c.seat_all.ensures.kin;
      wakes = subst (λ l. WakesBehind s.code n c.seat_all.new.kin.items kin.items l seats.items lost) placed c.wake_behind-self-inside.ensures;
    } in
    let rested = c.rest_behind.new.rests in
    let behind : RestsBehind (written c.in-Told.act) n kin.items seats.items store s.rests rested =
    subst (λ l. RestsBehind (written c.in-Told.act) n kin.items l store s.rests rested) c.deref-in-Told.ensures.value
    (subst (λ l. RestsBehind (written c.in-Told.act) n l c.deref-in-Told.result.now store s.rests rested) c.deref.ensures.value c.rest_behind.ensures) in
    let shows = told_shown s n c.self.invariant goes due x y c.in-Told.act store units c.deref-in-Told-2.result.now seats.items kin.items lost rested told woken behind c.deref-in-Told-2.ensures.value in
    record { few = shows.0; rests = shows.1 }

pub invariant_of-self-in-Told : goal.invariant_of-self-in-Told
invariant_of-self-in-Told c =
    let s = c.self.inside in
    let n = c.args.n in
    let due : IsDue (run_of s) n = subst (λ (r : Run). IsDue r n) (sym c.self.view_is) c.requires.due in
    let h = seat_home s.seats.items n due.ready.home in
    let goes : GoesOn (run_of s) = subst (λ (r : Run). GoesOn r) (sym c.self.view_is) c.requires.goes_on in
    let same = c.units_ready.ensures.same in
    let x = c.index_mut.result.now in
    let there : slice_get s.seats.items n ≡ Some x = seat_there s.seats.items c.units_ready.new.seats.items n x same (is_within s.seats.items n (seat.Home h.0) h.1) c.index_mut.ensures.value in
    let y = c.act_at.new.seat in
    let units = c.in-Ok.units.items in
    let store = c.act_at.new.store in
    let told : Told s n c.self.invariant goes due x y c.in-Told.act store units = record { there = there; are = c.in-Ok.ensures.units; comes = c.in-Told.ensures } in
    let placed : c.seat_all.new.seats.items ≡ slice_set s.seats.items n y ++ units = c.seat_all.ensures.seats ∙ ap (λ l. slice_set l n y ++ units) same in
    let seats = c.wake_behind-self-inside.new.seats in
    let kin = c.wake_behind-self-inside.new.kin in
    let lost = c.wake_behind-self-inside.result in
    let woken : Woken s n c.self.invariant goes due y units seats.items kin.items lost = record {
      grown = c.seat_all.new.kin.items;
      forks = subst (λ l. Forks l n (length units) c.seat_all.new.kin.items) c.units_ready.ensures.same_kin c.seat_all.ensures.kin;
      wakes = subst (λ l. WakesBehind s.code n c.seat_all.new.kin.items kin.items l seats.items lost) placed c.wake_behind-self-inside.ensures;
    } in
    let noted : Noted s n c.in-Told.act c.note.new.journal = record { items = c.note.ensures.items; room = omega (arith, c.note.ensures.room, c.self.invariant.room) } in
    let rested = c.rest_behind.new.rests in
    let behind : RestsBehind (written c.in-Told.act) n kin.items seats.items store s.rests rested =
    subst (λ l. RestsBehind (written c.in-Told.act) n kin.items l store s.rests rested) c.deref-in-Told.ensures.value
    (subst (λ l. RestsBehind (written c.in-Told.act) n l c.deref-in-Told.result.now store s.rests rested) c.deref.ensures.value c.rest_behind.ensures) in
    let all = told_all s n c.self.invariant goes due x y c.in-Told.act store units c.deref-in-Told-2.result.now c.note.new.journal seats rested kin lost c.end_behind-self-inside.result told noted woken behind c.deref-in-Told-2.ensures.value c.end_behind-self-inside.ensures in
    with_passed (run_told s n c.self.invariant goes due c.note.new.journal store seats rested kin lost c.end_behind-self-inside.result) c.pass_closed.new.passed c.deref-in-Told-3.result.now n all.0 c.deref-in-Told-3.ensures.value
    c.pass_closed.ensures

pub returns-in-Told : goal.returns-in-Told
returns-in-Told c =
    let s = c.self.inside in
    let n = c.args.n in
    let due : IsDue (run_of s) n = subst (λ (r : Run). IsDue r n) (sym c.self.view_is) c.requires.due in
    let h = seat_home s.seats.items n due.ready.home in
    let goes : GoesOn (run_of s) = subst (λ (r : Run). GoesOn r) (sym c.self.view_is) c.requires.goes_on in
    let same = c.units_ready.ensures.same in
    let x = c.index_mut.result.now in
    let there : slice_get s.seats.items n ≡ Some x = seat_there s.seats.items c.units_ready.new.seats.items n x same (is_within s.seats.items n (seat.Home h.0) h.1) c.index_mut.ensures.value in
    let y = c.act_at.new.seat in
    let units = c.in-Ok.units.items in
    let store = c.act_at.new.store in
    let told : Told s n c.self.invariant goes due x y c.in-Told.act store units = record { there = there; are = c.in-Ok.ensures.units; comes = c.in-Told.ensures } in
    let placed : c.seat_all.new.seats.items ≡ slice_set s.seats.items n y ++ units = c.seat_all.ensures.seats ∙ ap (λ l. slice_set l n y ++ units) same in
    let seats = c.wake_behind-self-inside.new.seats in
    let kin = c.wake_behind-self-inside.new.kin in
    let lost = c.wake_behind-self-inside.result in
    let woken : Woken s n c.self.invariant goes due y units seats.items kin.items lost = record {
      grown = c.seat_all.new.kin.items;
      forks = subst (λ l. Forks l n (length units) c.seat_all.new.kin.items) c.units_ready.ensures.same_kin c.seat_all.ensures.kin;
      wakes = subst (λ l. WakesBehind s.code n c.seat_all.new.kin.items kin.items l seats.items lost) placed c.wake_behind-self-inside.ensures;
    } in
    let noted : Noted s n c.in-Told.act c.note.new.journal = record { items = c.note.ensures.items; room = omega (arith, c.note.ensures.room, c.self.invariant.room) } in
    let rested = c.rest_behind.new.rests in
    let behind : RestsBehind (written c.in-Told.act) n kin.items seats.items store s.rests rested =
    subst (λ l. RestsBehind (written c.in-Told.act) n kin.items l store s.rests rested) c.deref-in-Told.ensures.value
    (subst (λ l. RestsBehind (written c.in-Told.act) n l c.deref-in-Told.result.now store s.rests rested) c.deref.ensures.value c.rest_behind.ensures) in
    let all = told_all s n c.self.invariant goes due x y c.in-Told.act store units c.deref-in-Told-2.result.now c.note.new.journal seats rested kin lost c.end_behind-self-inside.result told noted woken behind c.deref-in-Told-2.ensures.value c.end_behind-self-inside.ensures in
    rw (← c.self.view_is) all.1

pub invariant_of-self-in-Untold : goal.invariant_of-self-in-Untold
invariant_of-self-in-Untold c =
    let s = c.self.inside in
    let n = c.args.n in
    let due : IsDue (run_of s) n = subst (λ (r : Run). IsDue r n) (sym c.self.view_is) c.requires.due in
    let h = seat_home s.seats.items n due.ready.home in
    let goes : GoesOn (run_of s) = subst (λ (r : Run). GoesOn r) (sym c.self.view_is) c.requires.goes_on in
    let same = c.units_ready.ensures.same in
    let x = c.index_mut.result.now in
    let there : slice_get s.seats.items n ≡ Some x = seat_there s.seats.items c.units_ready.new.seats.items n x same (is_within s.seats.items n (seat.Home h.0) h.1) c.index_mut.ensures.value in
    let y = c.act_at.new.seat in
    let units = c.in-Ok.units.items in
    let store = c.act_at.new.store in
    let noted : Noted s n c.in-Untold.act c.note-in-Untold.new.journal =
    record { items = c.note-in-Untold.ensures.items; room = omega (arith, c.note-in-Untold.ensures.room, c.self.invariant.room) } in
    let all = untold_all s n c.self.invariant goes due x y c.in-Untold.act store units c.note-in-Untold.new.journal c.seat_all-in-Untold.new.seats c.new.result c.seat_all-in-Untold.new.kin c.new.ensures there c.in-Ok.ensures.units c.in-Untold.ensures noted
    (subst (λ l. Forks l n (length units) c.seat_all-in-Untold.new.kin.items) c.units_ready.ensures.same_kin c.seat_all-in-Untold.ensures.kin) (c.seat_all-in-Untold.ensures.seats ∙ ap (λ l. slice_set l n y ++ units) same) in
    all.0

pub returns-in-Untold : goal.returns-in-Untold
returns-in-Untold c =
    let s = c.self.inside in
    let n = c.args.n in
    let due : IsDue (run_of s) n = subst (λ (r : Run). IsDue r n) (sym c.self.view_is) c.requires.due in
    let h = seat_home s.seats.items n due.ready.home in
    let goes : GoesOn (run_of s) = subst (λ (r : Run). GoesOn r) (sym c.self.view_is) c.requires.goes_on in
    let same = c.units_ready.ensures.same in
    let x = c.index_mut.result.now in
    let there : slice_get s.seats.items n ≡ Some x = seat_there s.seats.items c.units_ready.new.seats.items n x same (is_within s.seats.items n (seat.Home h.0) h.1) c.index_mut.ensures.value in
    let y = c.act_at.new.seat in
    let units = c.in-Ok.units.items in
    let store = c.act_at.new.store in
    let noted : Noted s n c.in-Untold.act c.note-in-Untold.new.journal =
    record { items = c.note-in-Untold.ensures.items; room = omega (arith, c.note-in-Untold.ensures.room, c.self.invariant.room) } in
    let all = untold_all s n c.self.invariant goes due x y c.in-Untold.act store units c.note-in-Untold.new.journal c.seat_all-in-Untold.new.seats c.new.result c.seat_all-in-Untold.new.kin c.new.ensures there c.in-Ok.ensures.units c.in-Untold.ensures noted
    (subst (λ l. Forks l n (length units) c.seat_all-in-Untold.new.kin.items) c.units_ready.ensures.same_kin c.seat_all-in-Untold.ensures.kin) (c.seat_all-in-Untold.ensures.seats ∙ ap (λ l. slice_set l n y ++ units) same) in
    rw (← c.self.view_is) all.1

pub end_with-requires-clause-ends : goal.end_with-requires-clause-ends
end_with-requires-clause-ends c =
    let s = c.self.inside in
    let n = c.args.n in
    let due : IsDue (run_of s) n = subst (λ (r : Run). IsDue r n) (sym c.self.view_is) c.requires.due in
    let h = seat_home s.seats.items n due.ready.home in
    let goes : GoesOn (run_of s) = subst (λ (r : Run). GoesOn r) (sym c.self.view_is) c.requires.goes_on in
    let same = c.units_ready.ensures.same in
    let x = c.index_mut.result.now in
    let there : slice_get s.seats.items n ≡ Some x = seat_there s.seats.items c.units_ready.new.seats.items n x same (is_within s.seats.items n (seat.Home h.0) h.1) c.index_mut.ensures.value in
    let y = c.act_at.new.seat in
    let left = refused_left s n c.self.invariant goes due x y c.in-Refused.kind c.act_at.new.store there c.in-Refused.ensures in
    refused_ends s n c.self.invariant goes due x y c.in-Refused.kind c.act_at.new.store c.place_at-place.result there c.in-Refused.ensures
    (c.place_at-place.ensures ∙ ap (λ l. place_at l n) (c.deref-in-Refused.ensures.value ∙ ap (λ l. slice_set l n y) same ∙ left.1) ∙ ap (λ o. option_map_or place_in o 0) there)

pub invariant_of-self-in-Refused : goal.invariant_of-self-in-Refused
invariant_of-self-in-Refused c =
    let s = c.self.inside in
    let n = c.args.n in
    let due : IsDue (run_of s) n = subst (λ (r : Run). IsDue r n) (sym c.self.view_is) c.requires.due in
    let h = seat_home s.seats.items n due.ready.home in
    let goes : GoesOn (run_of s) = subst (λ (r : Run). GoesOn r) (sym c.self.view_is) c.requires.goes_on in
    let same = c.units_ready.ensures.same in
    let x = c.index_mut.result.now in
    let there : slice_get s.seats.items n ≡ Some x = seat_there s.seats.items c.units_ready.new.seats.items n x same (is_within s.seats.items n (seat.Home h.0) h.1) c.index_mut.ensures.value in
    let y = c.act_at.new.seat in
    let left = refused_left s n c.self.invariant goes due x y c.in-Refused.kind c.act_at.new.store there c.in-Refused.ensures in
    left_sound s c.self.invariant c.act_at.new.store (with_item c.units_ready.new.seats n y) c.units_ready.new.kin left.0 (ap (λ (l : List Seat). slice_set l n y) same ∙ left.1) c.units_ready.ensures.same_kin

pub invariant_of-self-in-NoMemory : goal.invariant_of-self-in-NoMemory
invariant_of-self-in-NoMemory c =
    let s = c.self.inside in
    let n = c.args.n in
    let due : IsDue (run_of s) n = subst (λ (r : Run). IsDue r n) (sym c.self.view_is) c.requires.due in
    let h = seat_home s.seats.items n due.ready.home in
    let goes : GoesOn (run_of s) = subst (λ (r : Run). GoesOn r) (sym c.self.view_is) c.requires.goes_on in
    let same = c.units_ready.ensures.same in
    let x = c.index_mut.result.now in
    let there : slice_get s.seats.items n ≡ Some x = seat_there s.seats.items c.units_ready.new.seats.items n x same (is_within s.seats.items n (seat.Home h.0) h.1) c.index_mut.ensures.value in
    let y = c.act_at.new.seat in
    let left = unfound_left s n c.self.invariant goes due x y c.act_at.new.store there c.in-NoMemory.ensures in
    left_sound s c.self.invariant c.act_at.new.store (with_item c.units_ready.new.seats n y) c.units_ready.new.kin left.0 (ap (λ (l : List Seat). slice_set l n y) same ∙ left.1) c.units_ready.ensures.same_kin

pub lose-requires-in-NoMemory-clause-due : goal.lose-requires-in-NoMemory-clause-due
lose-requires-in-NoMemory-clause-due c =
    let s = c.self.inside in
    let n = c.args.n in
    let due : IsDue (run_of s) n = subst (λ (r : Run). IsDue r n) (sym c.self.view_is) c.requires.due in
    let h = seat_home s.seats.items n due.ready.home in
    let goes : GoesOn (run_of s) = subst (λ (r : Run). GoesOn r) (sym c.self.view_is) c.requires.goes_on in
    let same = c.units_ready.ensures.same in
    let x = c.index_mut.result.now in
    let there : slice_get s.seats.items n ≡ Some x = seat_there s.seats.items c.units_ready.new.seats.items n x same (is_within s.seats.items n (seat.Home h.0) h.1) c.index_mut.ensures.value in
    let y = c.act_at.new.seat in
    let left = unfound_left s n c.self.invariant goes due x y c.act_at.new.store there c.in-NoMemory.ensures in
    let stays : map status_of (slice_set c.units_ready.new.seats.items n y) ≡ map status_of s.seats.items = ap (λ (l : List Seat). map status_of (slice_set l n y)) same ∙ ap (λ (l : List Seat). map status_of l) left.1 in
    subst (λ (l : List StrandState). IsOtherDue (record { code = s.code; fuel = s.fuel; entries = s.journal.items; status = l; lost = s.lost; end = s.end }) n) (sym stays)
    (unfound_wants s n c.self.invariant goes due x y c.act_at.new.store there c.in-NoMemory.ensures)

pub returns-in-NoMemory : goal.returns-in-NoMemory
returns-in-NoMemory c =
    let s = c.self.inside in
    let n = c.args.n in
    let due : IsDue (run_of s) n = subst (λ (r : Run). IsDue r n) (sym c.self.view_is) c.requires.due in
    let h = seat_home s.seats.items n due.ready.home in
    let goes : GoesOn (run_of s) = subst (λ (r : Run). GoesOn r) (sym c.self.view_is) c.requires.goes_on in
    let same = c.units_ready.ensures.same in
    let x = c.index_mut.result.now in
    let there : slice_get s.seats.items n ≡ Some x = seat_there s.seats.items c.units_ready.new.seats.items n x same (is_within s.seats.items n (seat.Home h.0) h.1) c.index_mut.ensures.value in
    let y = c.act_at.new.seat in
    let left = unfound_left s n c.self.invariant goes due x y c.act_at.new.store there c.in-NoMemory.ensures in
    let stays : map status_of (slice_set c.units_ready.new.seats.items n y) ≡ map status_of s.seats.items = ap (λ (l : List Seat). map status_of (slice_set l n y)) same ∙ ap (λ (l : List Seat). map status_of l) left.1 in
    subst (λ (r : Run). TurnOf r n c.lose-in-NoMemory.result c.lose-in-NoMemory.new.self)
    (ap (λ l. record { code = s.code; fuel = s.fuel; entries = s.journal.items; status = l; lost = s.lost; end = s.end }) stays ∙ c.self.view_is) c.lose-in-NoMemory.ensures
