use Rattle.a68_emit.proofs.Seating.{jump_is, misfit_is}
use Rattle.a68_emit.proofs.seat.jump.Goals as goal

pub returns-in-Some : goal.returns-in-Some
returns-in-Some c =
    let v = c.args.program.now in
    let goes = rw c.saturating_sub-frames.ensures at c.go_to.ensures in
    rw (jump_is c.args.place c.args.label v.depth c.args.yields _ c.in-Some.clause c.in-Some.ensures) goes

pub returns-in-None : goal.returns-in-None
returns-in-None c =
    let v = c.args.program.now in
    rw (misfit_is c.args.place c.args.label v.depth c.args.yields _ c.in-None.ensures) c.misfit.ensures
