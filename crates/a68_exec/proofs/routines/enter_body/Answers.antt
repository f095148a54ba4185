use Rattle.std.proofs.Common.{◌∙◌, sym, arith}
use Rattle.a68_exec.proofs.Scopes.{room_within}
use Rattle.a68_exec.proofs.routines.enter_body.Goals as goal

pub overflow_add-want : goal.overflow_add-want
overflow_add-want c =
    let body = c.args.body.now in
    let small = room_within body.chain c.in-Some.environ body.room (sym c.outer.ensures ∙ c.in-Some.is) in
    omega (arith, small)
