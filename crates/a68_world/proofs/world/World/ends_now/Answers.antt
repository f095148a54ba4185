use Rattle.std.proofs.Common.{◌≡◌, Some, refl, sym, subst, slice_get, arith}
use Rattle.a68_world.specs.Inside.{run_of}
use Rattle.a68_world.specs.Run.{Run}
use Rattle.a68_world.specs.Turns.{GoesOn, IsReady}
use Rattle.a68_world.specs.declared.seat.Seat.TheVariants as seat
use Rattle.a68_world.proofs.Doing.{seat_there}
use Rattle.a68_world.proofs.Places.{is_within}
use Rattle.a68_world.proofs.Standing.{seat_home, ends_seat}
use Rattle.a68_world.proofs.world.World.ends_now.Goals as goal

pub index-requires : goal.index-requires
index-requires c =
    let s = c.self.inside in
    let n = c.args.n in
    let ready : IsReady (run_of s) n = subst (λ (r : Run). IsReady r n) (sym c.self.view_is) c.requires.ready in
    let h = seat_home s.seats.items n ready.home in
    omega (arith, is_within s.seats.items n (seat.Home h.0) h.1, s.seats.ok.0)

pub returns : goal.returns
returns c =
    let s = c.self.inside in
    let n = c.args.n in
    let x = c.index.result.now in
    let ready : IsReady (run_of s) n = subst (λ (r : Run). IsReady r n) (sym c.self.view_is) c.requires.ready in
    let goes : GoesOn (run_of s) = subst (λ (r : Run). GoesOn r) (sym c.self.view_is) c.requires.goes_on in
    let h = seat_home s.seats.items n ready.home in
    let there : slice_get s.seats.items n ≡ Some x = seat_there s.seats.items s.seats.items n x refl (is_within s.seats.items n (seat.Home h.0) h.1) c.index.ensures in
    rw (← c.self.view_is) (ends_seat s n x c.is_full-full.result c.end_at.result c.self.invariant ready goes there c.is_full-full.ensures c.end_at.ensures)
