use Rattle.a68_code.proofs.code.Code.valid.Goals as goal

pub ways_agree-requires-clause-fits : goal.ways_agree-requires-clause-fits
ways_agree-requires-clause-fits c = c.all_fit.ensures.0 c.if-not-all_fit.false
