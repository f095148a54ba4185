use Rattle.a68_read.proofs.Joining.{join_one, join_more}
use Rattle.a68_read.proofs.act.join.Goals as goal

pub returns-then-is_single : goal.returns-then-is_single
returns-then-is_single c = join_one _ _ c.is_single.result _ c.if-is_single.true c.is_single.ensures.several c.leave.ensures.built

pub returns : goal.returns
returns c = join_more _ _ c.is_single.result _ _ c.if-is_single.false c.is_single.ensures.one c.in_ok-wrap.ensures.built c.leave-2.ensures.built
