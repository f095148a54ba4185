use Rattle.a68_marks.proofs.Bits.{full_words}
use Rattle.a68_marks.proofs.marks.run_at.Goals as goal

pub returns-then-count-ne0 : goal.returns-then-count-ne0
returns-then-count-ne0 c = full_words c.args.words.now c.args.full.now c.args.n c.run_from-count.result c.requires c.if-n-eq0.true c.if-count-ne0.true c.run_from-count.ensures.run
