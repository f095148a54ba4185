use Rattle.a68_marks.proofs.Bits.{set_less}
use Rattle.a68_marks.proofs.marks.clear_bit.Goals as goal

pub returns : goal.returns
returns c = set_less c.args.words.now c.args.n c.requires
