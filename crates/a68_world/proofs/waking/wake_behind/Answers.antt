use Rattle.std.proofs.Common.{◌≡◌, ◌∙◌, true, false, sym, ap}
use Rattle.a68_exec.specs.Runs.{is_closed}
use Rattle.a68_world.specs.Kin.{forker_at}
use Rattle.a68_world.specs.Seats.{closed_at}
use Rattle.a68_world.proofs.Forking.{only_forker, only_self}
use Rattle.a68_world.proofs.Rousing.{closed_same, wakes_one, woke_first}
use Rattle.a68_world.proofs.waking.wake_behind.Goals as goal

pub returns-then-closed_at : goal.returns-then-closed_at
returns-then-closed_at c = λ strands sit long rest are only.
    let code = c.args.code.now in
    let seats = c.args.seats.now.items in
    let shown = closed_same code strands rest 0 seats seats false (woke_first code strands rest seats sit long) c.args.n in
    let closed : is_closed strands c.args.n ≡ true = sym shown ∙ ap (λ l. closed_at l c.args.n) (sym c.deref.ensures.value) ∙ sym c.closed_at.ensures ∙ c.if-closed_at.true in
    let forker = c.forker_of-forker.ensures ∙ ap (λ l. forker_at l c.args.n) c.deref-then-closed_at.ensures.value in
    let w = c.wake_by-found.ensures strands sit long rest are in (
      rw c.is_lost.ensures (wakes_one code strands rest c.forker_of-forker.result seats c.wake_by-found.new.seats.items c.wake_by-found.result sit long
          (λ k r. only_forker c.args.kin.now.items strands c.args.n are closed only k r ∙ sym forker) w.0),
      w.1,
    )

pub returns : goal.returns
returns c = λ strands sit long rest are only.
    let code = c.args.code.now in
    let seats = c.args.seats.now.items in
    let shown = closed_same code strands rest 0 seats seats false (woke_first code strands rest seats sit long) c.args.n in
    let pending : is_closed strands c.args.n ≡ false = sym shown ∙ ap (λ l. closed_at l c.args.n) (sym c.deref.ensures.value) ∙ sym c.closed_at.ensures ∙ c.if-closed_at.false in (
      rw c.is_lost-2.ensures (wakes_one code strands rest c.args.n seats c.wake_at-found.new.seats.items c.wake_at-found.result sit long
          (λ k r. only_self strands c.args.n pending only k r) c.wake_at-found.ensures),
      are,
    )
