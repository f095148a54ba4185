use Rattle.std.proofs.Common.{◌≡◌, drop, map}
use Rattle.a68_ops.specs.Texts.{code_of, order_of}
use Rattle.a68_ops.proofs.texts.order.Given as goal

abbrev pub invariant-loop-i : goal.invariant-loop-i
invariant-loop-i l =
    order_of (map code_of (drop l.i l.left)) (map code_of (drop l.i l.right)) ≡ order_of (map code_of l.left) (map code_of l.right)
