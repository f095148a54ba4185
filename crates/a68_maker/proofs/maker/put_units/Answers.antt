use Rattle.a68_maker.proofs.Lines.{one_more}
use Rattle.a68_maker.proofs.maker.put_units.Goals as goal

pub loop-number-preserved : goal.loop-number-preserved
loop-number-preserved c = rw c.in_ok-put_unit.ensures (one_more _ _ c.loop-number.number c.args.units c.loop-number-test.true c.loop-number.invariant)
