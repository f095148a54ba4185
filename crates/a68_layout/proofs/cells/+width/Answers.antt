use Rattle.std.proofs.Common.{arith}
use Rattle.a68_layout.proofs.Shaping.{one-past, one-other}
use Rattle.a68_layout.proofs.cells.+width.Goals as goal

pub count_on-returns-then-mode-len : goal.count_on-returns-then-mode-len
count_on-returns-then-mode-len t c =
    one-past c.args.depth c.args.modes.now c.args.mode c.args.counted c.if-counted-gt-MOST_COUNTED.false (omega (arith, c.len.ensures.length, c.if-mode-len.true))

pub count_on-returns-in_default : goal.count_on-returns-in_default
count_on-returns-in_default t c =
    one-other c.args.depth c.args.modes.now c.args.mode c.args.counted c.shape.result.now c.if-counted-gt-MOST_COUNTED.false c.shape.ensures.shape
    c.in_default.not-Struct c.in_default.not-Same
