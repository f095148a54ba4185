use Rattle.a68_report.proofs.Told.{one_more}
use Rattle.a68_report.proofs.variables.put_phrases.Goals as goal

pub loop-phrase-preserved : goal.loop-phrase-preserved
loop-phrase-preserved c =
    one_more c.args.program.now c.args.kept.now c.args.phrases.now c.loop-phrase.phrase-index 0 c.loop-phrase.text c.put_phrase.new.text _ c.loop-phrase-test.true
    c.in_ok-put_phrase.ensures c.loop-phrase.invariant
