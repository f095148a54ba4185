use Rattle.std.proofs.Common.{arith}
use Rattle.a68_marks.proofs.Bits.{none_less}
use Rattle.a68_marks.proofs.marks.take_out.Goals as goal

pub returns-else-n-words : goal.returns-else-n-words
returns-else-n-words c = none_less c.args.words.now c.args.n (omega (arith, c.if-n-words.false))
