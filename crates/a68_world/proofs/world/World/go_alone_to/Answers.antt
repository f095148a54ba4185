use Rattle.std.proofs.Common.{◌≡◌, ◌≤◌, ◌∙◌, ◌∷◌, [], ℕ, Some, inr, List, length, map, refl, ap, sym, subst, arith, MatchBool}
use Rattle.std.proofs.Math.ListN.{length-set}
use Rattle.std.specs.Prelude.{slice_get, slice_set}
use Rattle.std.specs.Vec.{with_item}
use Rattle.a68_acts.specs.Store.{Store}
use Rattle.a68_instructions.proofs.Settling.{stepped, stopped}
use Rattle.a68_world.specs.AloneAt.{NoneAheadAt}
use Rattle.a68_world.specs.declared.seat.Seat.{Seat}
use Rattle.a68_world.proofs.Doing.{seat_there}
use Rattle.a68_world.proofs.GoingAlone.{gone_ahead, gone_all, gone_rests, one_alone, rests_at, stands_alone, still_ahead, stopped_all}
use Rattle.a68_world.proofs.Outcomes.{EndsBy}
use Rattle.a68_world.proofs.Places.{set_again}
use Rattle.a68_world.proofs.Standing.{few_seats, none_from}
use Rattle.a68_world.specs.Passed.{StandsAlone}
use Rattle.a68_world.specs.Run.{Run, world}
use Rattle.a68_world.specs.Seats.{status_of}
use Rattle.a68_world.specs.declared.status.StrandState.TheVariants as status
use Rattle.a68_world.proofs.world.World.go_alone_to.Goals as goal

pub go_at-requires-clause-rests : goal.go_at-requires-clause-rests
go_at-requires-clause-rests c =
    let s = c.self.inside in
    let long : c.len.result ≡ length s.seats.items = omega (arith, c.len.ensures, s.seats.ok.0) in
    let alone = stands_alone s c.is_alone.result (subst (λ n. MatchBool c.is_alone.result (StandsAlone s.passed n) (n ≡ 1 → ⊥)) long c.is_alone.ensures) c.if-not-is_alone.false in
    let x = c.index_mut.result.now in
    let there : slice_get s.seats.items 0 ≡ Some x = seat_there s.seats.items s.seats.items 0 x refl (omega (arith, alone.some)) c.index_mut.ensures.value in
    rests_at s c.self.invariant x there

pub invariant_of-self : goal.invariant_of-self
invariant_of-self c =
    let s = c.self.inside in
    let long : c.len.result ≡ length s.seats.items = omega (arith, c.len.ensures, s.seats.ok.0) in
    let alone = stands_alone s c.is_alone.result (subst (λ n. MatchBool c.is_alone.result (StandsAlone s.passed n) (n ≡ 1 → ⊥)) long c.is_alone.ensures) c.if-not-is_alone.false in
    let x = c.index_mut.result.now in
    let there : slice_get s.seats.items 0 ≡ Some x = seat_there s.seats.items s.seats.items 0 x refl (omega (arith, alone.some)) c.index_mut.ensures.value in
    let seats = with_item s.seats 0 c.go_at.new.seat in
    let shown = subst (λ l. EndsBy l c.go_at.new.store c.end_behind-self-inside.result) c.deref.ensures.value c.end_behind-self-inside.ensures in
    (gone_all s c.self.invariant alone (none_from s.end c.is_some.result c.is_some.ensures c.if-is_some.false) c.if-self.false c.go_at.new.journal c.go_at.new.store seats (omega (arith, c.go_at.ensures.room, c.self.invariant.room)) (omega (arith, c.go_at.ensures.within, c.min-bound.ensures)) c.rouse.new.self c.rouse.ensures x c.go_at.new.seat
    c.end_behind-self-inside.result there (stepped c.in-Ok-true.field-0 _ _ c.in-Ok-true.ensures.went c.in-Ok-true.field-0-test) refl shown).0

pub invariant_of-self-in-Err : goal.invariant_of-self-in-Err
invariant_of-self-in-Err c =
    let s = c.self.inside in
    let long : c.len.result ≡ length s.seats.items = omega (arith, c.len.ensures, s.seats.ok.0) in
    let alone = stands_alone s c.is_alone.result (subst (λ n. MatchBool c.is_alone.result (StandsAlone s.passed n) (n ≡ 1 → ⊥)) long c.is_alone.ensures) c.if-not-is_alone.false in
    let x = c.index_mut.result.now in
    let there : slice_get s.seats.items 0 ≡ Some x = seat_there s.seats.items s.seats.items 0 x refl (omega (arith, alone.some)) c.index_mut.ensures.value in
    let seats = with_item s.seats 0 c.go_at.new.seat in
    stopped_all s c.self.invariant alone (none_from s.end c.is_some.result c.is_some.ensures c.if-is_some.false) c.if-self.false c.go_at.new.journal c.go_at.new.store seats (omega (arith, c.go_at.ensures.room, c.self.invariant.room)) (omega (arith, c.go_at.ensures.within, c.min-bound.ensures)) c.rouse-in-Err.new.self c.rouse-in-Err.ensures x c.go_at.new.seat
    there c.in-Err.ensures.stops refl

pub returns-in-Ok-true-clause-alone : goal.returns-in-Ok-true-clause-alone
returns-in-Ok-true-clause-alone c =
    let s = c.self.inside in
    let long : c.len.result ≡ length s.seats.items = omega (arith, c.len.ensures, s.seats.ok.0) in
    let alone = stands_alone s c.is_alone.result (subst (λ n. MatchBool c.is_alone.result (StandsAlone s.passed n) (n ≡ 1 → ⊥)) long c.is_alone.ensures) c.if-not-is_alone.false in
    let x = c.index_mut.result.now in
    let there : slice_get s.seats.items 0 ≡ Some x = seat_there s.seats.items s.seats.items 0 x refl (omega (arith, alone.some)) c.index_mut.ensures.value in
    let seats = with_item s.seats 0 c.go_at.new.seat in
    let shown = subst (λ l. EndsBy l c.go_at.new.store c.end_behind-self-inside.result) c.deref.ensures.value c.end_behind-self-inside.ensures in
    rw (← c.self.view_is) (inr (gone_all s c.self.invariant alone (none_from s.end c.is_some.result c.is_some.ensures c.if-is_some.false) c.if-self.false c.go_at.new.journal c.go_at.new.store seats (omega (arith, c.go_at.ensures.room, c.self.invariant.room)) (omega (arith, c.go_at.ensures.within, c.min-bound.ensures)) c.rouse.new.self c.rouse.ensures x
    c.go_at.new.seat c.end_behind-self-inside.result there (stepped c.in-Ok-true.field-0 _ _ c.in-Ok-true.ensures.went c.in-Ok-true.field-0-test) refl shown).1)

pub returns-in-Ok-true-clause-ahead : goal.returns-in-Ok-true-clause-ahead
returns-in-Ok-true-clause-ahead c =
    let s = c.self.inside in
    let long : c.len.result ≡ length s.seats.items = omega (arith, c.len.ensures, s.seats.ok.0) in
    let alone = stands_alone s c.is_alone.result (subst (λ n. MatchBool c.is_alone.result (StandsAlone s.passed n) (n ≡ 1 → ⊥)) long c.is_alone.ensures) c.if-not-is_alone.false in
    let x = c.index_mut.result.now in
    let there : slice_get s.seats.items 0 ≡ Some x = seat_there s.seats.items s.seats.items 0 x refl (omega (arith, alone.some)) c.index_mut.ensures.value in
    λ low unended kept home st strands.
    let within : s.fuel ≤ c.args.most = subst (λ (r : Run). r.fuel ≤ c.args.most) (sym c.self.view_is) low in
    let bound : c.min-bound.result ≡ s.fuel = omega (arith, within, c.min-bound.ensures) in
    let none = subst (λ (f : ℕ). NoneAheadAt f (length c.go_at.new.journal.items) c.go_at.new.store c.go_at.new.seat) bound c.in-Ok-true.ensures.ahead in
    gone_ahead s c.self.invariant alone (none_from s.end c.is_some.result c.is_some.ensures c.if-is_some.false) c.if-self.false c.go_at.new.journal c.go_at.new.store (with_item s.seats 0 c.go_at.new.seat) (omega (arith, c.go_at.ensures.room, c.self.invariant.room)) (omega (arith, c.go_at.ensures.within, c.min-bound.ensures)) c.rouse.new.self c.rouse.ensures x
    c.go_at.new.seat there (stepped c.in-Ok-true.field-0 _ _ c.in-Ok-true.ensures.went c.in-Ok-true.field-0-test) refl none st strands

pub returns-in-Ok-false-clause-ahead : goal.returns-in-Ok-false-clause-ahead
returns-in-Ok-false-clause-ahead c =
    let s = c.self.inside in
    let long : c.len.result ≡ length s.seats.items = omega (arith, c.len.ensures, s.seats.ok.0) in
    let alone = stands_alone s c.is_alone.result (subst (λ n. MatchBool c.is_alone.result (StandsAlone s.passed n) (n ≡ 1 → ⊥)) long c.is_alone.ensures) c.if-not-is_alone.false in
    let x = c.index_mut.result.now in
    let there : slice_get s.seats.items 0 ≡ Some x = seat_there s.seats.items s.seats.items 0 x refl (omega (arith, alone.some)) c.index_mut.ensures.value in
    let same = stopped c.in-Ok-false.field-0 _ _ c.in-Ok-false.ensures.went c.in-Ok-false.field-0-test in
    let entries = length c.go_at.new.journal.items in
    λ low unended kept home st strands.
    let within : s.fuel ≤ c.args.most = subst (λ (r : Run). r.fuel ≤ c.args.most) (sym c.self.view_is) low in
    let bound : c.min-bound.result ≡ s.fuel = omega (arith, within, c.min-bound.ensures) in
    let ahead = subst (λ (f : ℕ). NoneAheadAt f entries c.go_at.new.store c.go_at.new.seat) bound c.in-Ok-false.ensures.ahead in
    let none = subst (λ (y : Seat). NoneAheadAt s.fuel entries s.store y) same.0 (subst (λ (t : Store). NoneAheadAt s.fuel entries t c.go_at.new.seat) same.1 ahead) in
    still_ahead s c.self.invariant alone c.go_at.new.journal same.2 x there none kept
    (subst (λ (l : List Seat). slice_get (map status_of l) 0 ≡ Some status.Home) (ap (slice_set s.seats.items 0) same.0 ∙ set_again s.seats.items 0 x there) home) st strands

pub end_behind-self-inside-requires : goal.end_behind-self-inside-requires
end_behind-self-inside-requires c =
    let s = c.self.inside in
    let long : c.len.result ≡ length s.seats.items = omega (arith, c.len.ensures, s.seats.ok.0) in
    let alone = stands_alone s c.is_alone.result (subst (λ n. MatchBool c.is_alone.result (StandsAlone s.passed n) (n ≡ 1 → ⊥)) long c.is_alone.ensures) c.if-not-is_alone.false in
    let x = c.index_mut.result.now in
    let there : slice_get s.seats.items 0 ≡ Some x = seat_there s.seats.items s.seats.items 0 x refl (omega (arith, alone.some)) c.index_mut.ensures.value in
    let seats = with_item s.seats 0 c.go_at.new.seat in
    let none = none_from s.end c.is_some.result c.is_some.ensures c.if-is_some.false in
    record {
      few = rw c.deref.ensures.value (omega (arith, length-set s.seats.items 0 c.go_at.new.seat, few_seats s c.self.invariant));
      rests = rw c.deref.ensures.value (gone_rests s c.self.invariant alone none c.if-self.false c.go_at.new.journal c.go_at.new.store seats (omega (arith, c.go_at.ensures.room, c.self.invariant.room)) (omega (arith, c.go_at.ensures.within, c.min-bound.ensures)) c.rouse.new.self c.rouse.ensures x c.go_at.new.seat there
          (stepped c.in-Ok-true.field-0 _ _ c.in-Ok-true.ensures.went c.in-Ok-true.field-0-test) refl);
    }

pub returns-then-not-is_alone-clause-ahead : goal.returns-then-not-is_alone-clause-ahead
returns-then-not-is_alone-clause-ahead c =
    let s = c.self.inside in
    let long : c.len.result ≡ length s.seats.items = omega (arith, c.len.ensures, s.seats.ok.0) in
    λ low unended kept home st strands.
    absurd (one_alone s c.self.invariant c.is_alone.result (subst (λ n. MatchBool c.is_alone.result (StandsAlone s.passed n) (n ≡ 1 → ⊥)) long c.is_alone.ensures) c.if-not-is_alone.true st
    (subst (λ (r : Run). (world r).strands ≡ st ∷ []) (sym c.self.view_is) strands))
