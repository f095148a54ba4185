use Rattle.std.proofs.Common.{◌≡◌, length, arith}
use Rattle.std.proofs.lemmas.Option.{slice_get-get_or}
use Rattle.a68_op_ident.proofs.Least.{none_late, late_more}
use Rattle.a68_op_ident.proofs.lacking.first_late.Goals as goal

pub loop-k-init : goal.loop-k-init
loop-k-init c = none_late c.args.tokens.now

pub loop-k-preserved : goal.loop-k-preserved
loop-k-preserved c =
    let at = slice_get-get_or c.args.tokens.now c.loop-k.k _ c.loop-k-test.true in
    rw (c.lesser-late.ensures, c.late_of.ensures) (late_more c.args.tokens.now c.loop-k.k _ c.loop-k.late at c.loop-k.invariant)

pub returns : goal.returns
returns c =
    let all : c.loop-k.k ≡ length c.args.tokens.now = omega (arith, c.loop-k-test.false, c.loop-k.auto.k-end) in
    rw all at c.loop-k.invariant
