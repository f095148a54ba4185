use Rattle.std.proofs.Common.{arith}
use Rattle.a68_symbols.proofs.Again.{true≢false}
use Rattle.a68_symbols.proofs.Lengths.{too_long}
use Rattle.a68_symbols.proofs.marks.mark_len.Goals as goal

pub loop-n-init : goal.loop-n-init
loop-n-init c = record {
  high = omega (arith, c.min-n.ensures);
  longest = λ m low le is. true≢false _ is (too_long c.args.text.now m (omega (arith, c.min-n.ensures)) le);
}
