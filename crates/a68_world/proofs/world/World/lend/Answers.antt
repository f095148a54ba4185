use Rattle.std.proofs.Common.{◌≡◌, Some, refl, sym, subst, arith}
use Rattle.std.specs.Prelude.{slice_get}
use Rattle.std.specs.Vec.{with_item}
use Rattle.a68_world.specs.Inside.{run_of}
use Rattle.a68_world.specs.Run.{Run}
use Rattle.a68_world.specs.Turns.{IsReady}
use Rattle.a68_world.specs.declared.seat.Seat.TheVariants as seat
use Rattle.a68_world.proofs.Returning.{lend_all, passed, picked}
use Rattle.a68_world.proofs.Doing.{seat_there}
use Rattle.a68_world.proofs.Places.{is_within}
use Rattle.a68_world.proofs.Standing.{none_from, seat_home}
use Rattle.a68_world.proofs.world.World.lend.Goals as goal

pub returns-then-not-can_turn : goal.returns-then-not-can_turn
returns-then-not-can_turn c = record { why = λ none. passed c.can_turn.result _ _ c.can_turn.ensures c.if-not-can_turn.true; after = refl }

pub index_mut-requires : goal.index_mut-requires
index_mut-requires c =
    let s = c.self.inside in
    let ready : IsReady (run_of s) c.args.strand = subst (λ (r : Run). IsReady r c.args.strand) (sym c.self.view_is) (picked c.can_turn.result _ _ c.can_turn.ensures c.if-not-can_turn.false) in
    let h = seat_home s.seats.items c.args.strand ready.home in
    omega (arith, is_within s.seats.items c.args.strand (seat.Home h.0) h.1)

pub invariant_of-self : goal.invariant_of-self
invariant_of-self c =
    let s = c.self.inside in
    let n = c.args.strand in
    let ready : IsReady (run_of s) n = subst (λ (r : Run). IsReady r n) (sym c.self.view_is) (picked c.can_turn.result _ _ c.can_turn.ensures c.if-not-can_turn.false) in
    let h = seat_home s.seats.items n ready.home in
    let x = c.index_mut.result.now in
    let there : slice_get s.seats.items n ≡ Some x = seat_there s.seats.items s.seats.items n x refl (is_within s.seats.items n (seat.Home h.0) h.1) c.index_mut.ensures.value in
    let none = none_from s.end c.is_some.result c.is_some.ensures c.if-is_some.false in
    (lend_all s n x c.take_out.new.seat c.take_out.result (with_item s.seats n c.take_out.new.seat) c.self.invariant none ready there c.take_out.ensures refl).0

pub returns : goal.returns
returns c =
    let s = c.self.inside in
    let n = c.args.strand in
    let ready : IsReady (run_of s) n = subst (λ (r : Run). IsReady r n) (sym c.self.view_is) (picked c.can_turn.result _ _ c.can_turn.ensures c.if-not-can_turn.false) in
    let h = seat_home s.seats.items n ready.home in
    let x = c.index_mut.result.now in
    let there : slice_get s.seats.items n ≡ Some x = seat_there s.seats.items s.seats.items n x refl (is_within s.seats.items n (seat.Home h.0) h.1) c.index_mut.ensures.value in
    let none = none_from s.end c.is_some.result c.is_some.ensures c.if-is_some.false in
    rw (← c.self.view_is) (lend_all s n x c.take_out.new.seat c.take_out.result (with_item s.seats n c.take_out.new.seat) c.self.invariant none ready there c.take_out.ensures refl).1
