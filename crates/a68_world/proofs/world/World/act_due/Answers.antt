use Rattle.std.proofs.Common.{◌≡◌, ◌∙◌, ◌++◌, ◌∷◌, [], false, List, length, map, refl, sym, ap, subst, arith}
use Rattle.std.specs.Prelude.{slice_set}
use Rattle.a68_world.specs.Inside.{run_of}
use Rattle.a68_world.specs.Leases.{IsHeld}
use Rattle.a68_world.specs.Kin.{Forks, WakesBehind}
use Rattle.a68_world.specs.Resting.{RestsBehind, written}
use Rattle.a68_world.specs.Run.{Run, world}
use Rattle.a68_world.specs.Seats.{status_of, turn_shown}
use Rattle.a68_world.specs.Turns.{GoesOn, IsDueAs, IsOtherDueAs}
use Rattle.a68_world.specs.declared.seat.Seat.{Seat}
use Rattle.a68_world.specs.declared.seat.Seat.TheVariants as seat
use Rattle.a68_world.specs.declared.status.StrandState.TheVariants as status
use Rattle.a68_world.proofs.Behind.{Noted}
use Rattle.a68_world.proofs.LentActs.{due_reached, fault_lent, lent_acts, lent_few, lent_there, run_lent, sits_turn}
use Rattle.a68_world.proofs.Closing.{with_passed}
use Rattle.a68_world.proofs.Places.{is_within}
use Rattle.a68_world.proofs.Standing.{asking_as, due_other_as, few_asked_as, few_frames, few_there}
use Rattle.a68_world.proofs.world.World.act_due.Goals as goal

pub units_for-requires-clause-numbers : goal.units_for-requires-clause-numbers
units_for-requires-clause-numbers c =
    let s = c.self.inside in
    let strand = c.args.strand.now in
    let held : IsHeld (run_of s) strand = subst (λ (r : Run). IsHeld r strand) (sym c.self.view_is) c.requires.held in
    let turn = ap (turn_shown strand.about.ask) c.self.invariant.store ∙ ap (λ (r : Run). turn_shown strand.about.ask (world r).store) c.self.view_is ∙ c.requires.turn in
    few_asked_as s c.self.invariant strand.number strand status.Lent (sits_turn s c.self.invariant strand held turn) strand.about.ask refl

pub lose_lent-requires-clause-due : goal.lose_lent-requires-clause-due
lose_lent-requires-clause-due c =
    let s = c.self.inside in
    let strand = c.args.strand.now in
    let held : IsHeld (run_of s) strand = subst (λ (r : Run). IsHeld r strand) (sym c.self.view_is) c.requires.held in
    let turn = ap (turn_shown strand.about.ask) c.self.invariant.store ∙ ap (λ (r : Run). turn_shown strand.about.ask (world r).store) c.self.view_is ∙ c.requires.turn in
    let due : IsDueAs (run_of s) strand.number status.Lent = subst (λ (r : Run). IsDueAs r strand.number status.Lent) (sym c.self.view_is) c.requires.due in
    let wanted : IsOtherDueAs (run_of s) strand.number status.Lent =
    due_other_as s c.self.invariant strand.number strand status.Lent (sits_turn s c.self.invariant strand held turn) due c.in_default.ensures.err in
    subst (λ (l : List Seat). IsOtherDueAs (record { code = s.code; fuel = s.fuel; entries = s.journal.items; status = map status_of l; lost = s.lost; end = s.end }) strand.number status.Lent) (sym c.units_for.ensures.same) wanted

pub act_lent-requires-clause-frames : goal.act_lent-requires-clause-frames
act_lent-requires-clause-frames c =
    let s = c.self.inside in
    let strand = c.args.strand.now in
    let due : IsDueAs (run_of s) strand.number status.Lent = subst (λ (r : Run). IsDueAs r strand.number status.Lent) (sym c.self.view_is) c.requires.due in
    few_frames s c.self.invariant due.fuel

pub note-requires-clause-few : goal.note-requires-clause-few
note-requires-clause-few c =
    let s = c.self.inside in
    let strand = c.args.strand.now in
    let held : IsHeld (run_of s) strand = subst (λ (r : Run). IsHeld r strand) (sym c.self.view_is) c.requires.held in
    let turn = ap (turn_shown strand.about.ask) c.self.invariant.store ∙ ap (λ (r : Run). turn_shown strand.about.ask (world r).store) c.self.view_is ∙ c.requires.turn in
    let few = few_there s c.self.invariant strand.number strand (sits_turn s c.self.invariant strand held turn).there in
    omega (arith, few, c.number-number.ensures)

pub act_lent-requires-clause-asking : goal.act_lent-requires-clause-asking
act_lent-requires-clause-asking c =
    let s = c.self.inside in
    let strand = c.args.strand.now in
    let held : IsHeld (run_of s) strand = subst (λ (r : Run). IsHeld r strand) (sym c.self.view_is) c.requires.held in
    let turn = ap (turn_shown strand.about.ask) c.self.invariant.store ∙ ap (λ (r : Run). turn_shown strand.about.ask (world r).store) c.self.view_is ∙ c.requires.turn in
    let due : IsDueAs (run_of s) strand.number status.Lent = subst (λ (r : Run). IsDueAs r strand.number status.Lent) (sym c.self.view_is) c.requires.due in
    asking_as s c.self.invariant strand.number strand status.Lent (sits_turn s c.self.invariant strand held turn) due

pub index_mut-requires : goal.index_mut-requires
index_mut-requires c =
    let s = c.self.inside in
    let strand = c.args.strand.now in
    let held : IsHeld (run_of s) strand = subst (λ (r : Run). IsHeld r strand) (sym c.self.view_is) c.requires.held in
    let t = lent_there s strand held in
    omega (arith, is_within s.seats.items strand.number (seat.Away false t.0) t.1, c.number-number.ensures, ap (λ (l : List Seat). length l) c.units_for.ensures.same, c.units_for.new.seats.ok.0)

pub rest_behind-requires : goal.rest_behind-requires
rest_behind-requires c =
    let s = c.self.inside in
    let strand = c.args.strand.now in
    let n = strand.number in
    let held : IsHeld (run_of s) strand = subst (λ (r : Run). IsHeld r strand) (sym c.self.view_is) c.requires.held in
    let goes : GoesOn (run_of s) = subst (λ (r : Run). GoesOn r) (sym c.self.view_is) c.requires.goes_on in
    let due : IsDueAs (run_of s) n status.Lent = subst (λ (r : Run). IsDueAs r n status.Lent) (sym c.self.view_is) c.requires.due in
    let units = c.in-Ok.units.items in
    let told = c.act_lent.new.reply in
    let store = c.act_lent.new.store in
    let closed = c.closes_by-closed.result in
    let number = c.number-number.ensures in
    let r = due_reached s strand c.self.invariant held c.in-Told.act told store units goes due c.in-Told.ensures c.in-Ok.ensures.units in
    let placed : c.seat_all.new.seats.items ≡ slice_set s.seats.items n (seat.Away false closed) ++ units =
    c.seat_all.ensures.seats ∙ ap (λ l. slice_set l c.number-number.result c.set_closed.new.seat ++ units) c.units_for.ensures.same ∙ ap (λ k. slice_set s.seats.items k c.set_closed.new.seat ++ units) number
    ∙ ap (λ z. slice_set s.seats.items n z ++ units) c.set_closed.ensures in
    let grown = c.seat_all.new.kin.items in
    let seats = c.wake_behind-self-inside.new.seats in
    let kin = c.wake_behind-self-inside.new.kin in
    let lost = c.wake_behind-self-inside.result in
    let forks : Forks s.kin.items n (length units) grown = subst (λ k. Forks s.kin.items k (length units) grown) number (subst (λ l. Forks l c.number-number.result (length units) grown) c.units_for.ensures.same_kin c.seat_all.ensures.kin) in
    let wakes : WakesBehind s.code n grown kin.items c.seat_all.new.seats.items seats.items lost = subst (λ k. WakesBehind s.code k grown kin.items c.seat_all.new.seats.items seats.items lost) number c.wake_behind-self-inside.ensures in
    let numbers = lent_few s c.self.invariant strand held c.in-Told.act told store units r closed lost c.seat_all.new.seats.items c.deref-in-Told.result.now seats.items grown kin.items c.closes_by-closed.ensures placed forks wakes c.deref-in-Told.ensures.value in
    record { few = numbers.0; within = omega (arith, numbers.1, number) }

pub invariant_of-self-in-Told : goal.invariant_of-self-in-Told
invariant_of-self-in-Told c =
    let s = c.self.inside in
    let strand = c.args.strand.now in
    let n = strand.number in
    let held : IsHeld (run_of s) strand = subst (λ (r : Run). IsHeld r strand) (sym c.self.view_is) c.requires.held in
    let goes : GoesOn (run_of s) = subst (λ (r : Run). GoesOn r) (sym c.self.view_is) c.requires.goes_on in
    let due : IsDueAs (run_of s) n status.Lent = subst (λ (r : Run). IsDueAs r n status.Lent) (sym c.self.view_is) c.requires.due in
    let units = c.in-Ok.units.items in
    let told = c.act_lent.new.reply in
    let store = c.act_lent.new.store in
    let closed = c.closes_by-closed.result in
    let number = c.number-number.ensures in
    let r = due_reached s strand c.self.invariant held c.in-Told.act told store units goes due c.in-Told.ensures c.in-Ok.ensures.units in
    let noted : Noted s n c.in-Told.act c.note.new.journal = record {
      items = c.note.ensures.items ∙ ap (λ k. s.journal.items ++ record { strand = k; act = c.in-Told.act } ∷ []) number;
      room = omega (arith, c.note.ensures.room, c.self.invariant.room);
    } in
    let placed : c.seat_all.new.seats.items ≡ slice_set s.seats.items n (seat.Away false closed) ++ units =
    c.seat_all.ensures.seats ∙ ap (λ l. slice_set l c.number-number.result c.set_closed.new.seat ++ units) c.units_for.ensures.same ∙ ap (λ k. slice_set s.seats.items k c.set_closed.new.seat ++ units) number
    ∙ ap (λ z. slice_set s.seats.items n z ++ units) c.set_closed.ensures in
    let grown = c.seat_all.new.kin.items in
    let seats = c.wake_behind-self-inside.new.seats in
    let kin = c.wake_behind-self-inside.new.kin in
    let lost = c.wake_behind-self-inside.result in
    let forks : Forks s.kin.items n (length units) grown = subst (λ k. Forks s.kin.items k (length units) grown) number (subst (λ l. Forks l c.number-number.result (length units) grown) c.units_for.ensures.same_kin c.seat_all.ensures.kin) in
    let wakes : WakesBehind s.code n grown kin.items c.seat_all.new.seats.items seats.items lost = subst (λ k. WakesBehind s.code k grown kin.items c.seat_all.new.seats.items seats.items lost) number c.wake_behind-self-inside.ensures in
    let rested = c.rest_behind.new.rests in
    let shown : RestsBehind (written c.in-Told.act) c.number-number.result kin.items seats.items store s.rests rested =
    subst (λ l. RestsBehind (written c.in-Told.act) c.number-number.result kin.items l store s.rests rested) c.deref-in-Told.ensures.value
    (subst (λ l. RestsBehind (written c.in-Told.act) c.number-number.result l c.deref-in-Told.result.now store s.rests rested) c.deref.ensures.value c.rest_behind.ensures) in
    let behind : RestsBehind (written c.in-Told.act) n kin.items seats.items store s.rests rested = subst (λ k. RestsBehind (written c.in-Told.act) k kin.items seats.items store s.rests rested) number shown in
    let acts = lent_acts s c.self.invariant strand held c.in-Told.act told store units r closed lost c.seat_all.new.seats.items c.note.new.journal seats rested grown kin c.closes_by-closed.ensures noted placed forks wakes behind in
    with_passed (run_lent s c.self.invariant strand held c.in-Told.act told store units r c.note.new.journal seats rested kin lost) c.pass_closed.new.passed c.deref-in-Told-2.result.now c.number-number.result acts.0 c.deref-in-Told-2.ensures.value c.pass_closed.ensures

pub returns-in-Told : goal.returns-in-Told
returns-in-Told c =
    let s = c.self.inside in
    let strand = c.args.strand.now in
    let n = strand.number in
    let held : IsHeld (run_of s) strand = subst (λ (r : Run). IsHeld r strand) (sym c.self.view_is) c.requires.held in
    let goes : GoesOn (run_of s) = subst (λ (r : Run). GoesOn r) (sym c.self.view_is) c.requires.goes_on in
    let due : IsDueAs (run_of s) n status.Lent = subst (λ (r : Run). IsDueAs r n status.Lent) (sym c.self.view_is) c.requires.due in
    let units = c.in-Ok.units.items in
    let told = c.act_lent.new.reply in
    let store = c.act_lent.new.store in
    let closed = c.closes_by-closed.result in
    let number = c.number-number.ensures in
    let r = due_reached s strand c.self.invariant held c.in-Told.act told store units goes due c.in-Told.ensures c.in-Ok.ensures.units in
    let noted : Noted s n c.in-Told.act c.note.new.journal = record {
      items = c.note.ensures.items ∙ ap (λ k. s.journal.items ++ record { strand = k; act = c.in-Told.act } ∷ []) number;
      room = omega (arith, c.note.ensures.room, c.self.invariant.room);
    } in
    let placed : c.seat_all.new.seats.items ≡ slice_set s.seats.items n (seat.Away false closed) ++ units =
    c.seat_all.ensures.seats ∙ ap (λ l. slice_set l c.number-number.result c.set_closed.new.seat ++ units) c.units_for.ensures.same ∙ ap (λ k. slice_set s.seats.items k c.set_closed.new.seat ++ units) number
    ∙ ap (λ z. slice_set s.seats.items n z ++ units) c.set_closed.ensures in
    let grown = c.seat_all.new.kin.items in
    let seats = c.wake_behind-self-inside.new.seats in
    let kin = c.wake_behind-self-inside.new.kin in
    let lost = c.wake_behind-self-inside.result in
    let forks : Forks s.kin.items n (length units) grown = subst (λ k. Forks s.kin.items k (length units) grown) number (subst (λ l. Forks l c.number-number.result (length units) grown) c.units_for.ensures.same_kin c.seat_all.ensures.kin) in
    let wakes : WakesBehind s.code n grown kin.items c.seat_all.new.seats.items seats.items lost = subst (λ k. WakesBehind s.code k grown kin.items c.seat_all.new.seats.items seats.items lost) number c.wake_behind-self-inside.ensures in
    let rested = c.rest_behind.new.rests in
    let shown : RestsBehind (written c.in-Told.act) c.number-number.result kin.items seats.items store s.rests rested =
    subst (λ l. RestsBehind (written c.in-Told.act) c.number-number.result kin.items l store s.rests rested) c.deref-in-Told.ensures.value
    (subst (λ l. RestsBehind (written c.in-Told.act) c.number-number.result l c.deref-in-Told.result.now store s.rests rested) c.deref.ensures.value c.rest_behind.ensures) in
    let behind : RestsBehind (written c.in-Told.act) n kin.items seats.items store s.rests rested = subst (λ k. RestsBehind (written c.in-Told.act) k kin.items seats.items store s.rests rested) number shown in
    let acts = lent_acts s c.self.invariant strand held c.in-Told.act told store units r closed lost c.seat_all.new.seats.items c.note.new.journal seats rested grown kin c.closes_by-closed.ensures noted placed forks wakes behind in
    rw (← c.self.view_is) acts.1

pub end_lent-requires-clause-held : goal.end_lent-requires-clause-held
end_lent-requires-clause-held c =
    let s = c.self.inside in
    let strand = c.args.strand.now in
    let held : IsHeld (run_of s) strand = subst (λ (r : Run). IsHeld r strand) (sym c.self.view_is) c.requires.held in
    subst (λ (l : List Seat). IsHeld (record { code = s.code; fuel = s.fuel; entries = s.journal.items; status = map status_of l; lost = s.lost; end = s.end }) strand) (sym c.units_for.ensures.same) held

pub end_lent-requires-clause-ends : goal.end_lent-requires-clause-ends
end_lent-requires-clause-ends c =
    let s = c.self.inside in
    let strand = c.args.strand.now in
    let held : IsHeld (run_of s) strand = subst (λ (r : Run). IsHeld r strand) (sym c.self.view_is) c.requires.held in
    let turn = ap (turn_shown strand.about.ask) c.self.invariant.store ∙ ap (λ (r : Run). turn_shown strand.about.ask (world r).store) c.self.view_is ∙ c.requires.turn in
    rw (c.place.ensures, c.number.ensures) (fault_lent s strand c.in-Refused.kind c.self.invariant (sits_turn s c.self.invariant strand held turn) c.in-Refused.ensures.1)

pub lose_lent-requires-in-NoMemory-clause-due : goal.lose_lent-requires-in-NoMemory-clause-due
lose_lent-requires-in-NoMemory-clause-due c =
    let s = c.self.inside in
    let strand = c.args.strand.now in
    let held : IsHeld (run_of s) strand = subst (λ (r : Run). IsHeld r strand) (sym c.self.view_is) c.requires.held in
    let turn = ap (turn_shown strand.about.ask) c.self.invariant.store ∙ ap (λ (r : Run). turn_shown strand.about.ask (world r).store) c.self.view_is ∙ c.requires.turn in
    let due : IsDueAs (run_of s) strand.number status.Lent = subst (λ (r : Run). IsDueAs r strand.number status.Lent) (sym c.self.view_is) c.requires.due in
    let wanted : IsOtherDueAs (run_of s) strand.number status.Lent =
    due_other_as s c.self.invariant strand.number strand status.Lent (sits_turn s c.self.invariant strand held turn) due c.in-NoMemory.ensures.1 in
    subst (λ (l : List Seat). IsOtherDueAs (record { code = s.code; fuel = s.fuel; entries = s.journal.items; status = map status_of l; lost = s.lost; end = s.end }) strand.number status.Lent) (sym c.units_for.ensures.same) wanted
