use Rattle.std.proofs.Common.{◌≤◌, length, ap, arith, below_more}
use Rattle.a68_heights.proofs.reach.are_falling.Goals as goal

pub loop-at-preserved : goal.loop-at-preserved
loop-at-preserved c = below_more _ _ c.loop-at.invariant (c.in_ok-is_falling_at.ensures c.if-not-branch.false)

pub returns : goal.returns
returns c =
    let list = ap (λ code. code.list) c.code.view_is in
    let past : length c.args.code.now.list ≤ c.loop-at.at = omega (arith, ap length list) in
    λ e at inside. c.loop-at.invariant at (omega (arith, past, inside))
