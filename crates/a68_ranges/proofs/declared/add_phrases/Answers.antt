use Rattle.std.proofs.Common.{arith}
use Rattle.a68_ranges.proofs.Declaring.{unjoined_more}
use Rattle.a68_ranges.proofs.Taking.{read}
use Rattle.a68_ranges.proofs.declared.add_phrases.Goals as goal

pub loop-phrase-preserved : goal.loop-phrase-preserved
loop-phrase-preserved c =
    unjoined_more c.args.tree.now c.args.list.now.items c.loop-phrase.list.items c.add_phrase.new.list.items c.args.phrases.now c.loop-phrase.phrase-index _ (read c.args.phrases.now c.loop-phrase.phrase-index 0 (omega arith)) c.loop-phrase.invariant c.in_ok-add_phrase.ensures
