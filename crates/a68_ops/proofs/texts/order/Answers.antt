use Rattle.std.proofs.Common.{◌∙◌, ◌≡◌, arith, min, length}
use Rattle.a68_ops.proofs.Chars.{order_at_end}
use Rattle.a68_ops.proofs.texts.order.Goals as goal

pub returns : goal.returns
returns c =
    let end : c.loop-i.i ≡ min (length c.args.left.now) (length c.args.right.now) = omega arith in
    c.cmp-2.ensures ∙ order_at_end c.args.left.now c.args.right.now c.loop-i.i end ∙ c.loop-i.invariant
