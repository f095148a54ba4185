use Rattle.a68_marks.proofs.Bits.{set_too}
use Rattle.a68_marks.proofs.marks.set_bit.Goals as goal

pub returns : goal.returns
returns c = set_too c.args.words.now c.args.n c.requires
