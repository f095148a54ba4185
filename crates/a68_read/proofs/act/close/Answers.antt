use Rattle.a68_read.proofs.Acting.{close_does}
use Rattle.a68_read.proofs.act.close.Goals as goal

pub returns : goal.returns
returns c = close_does _ _ _ _ _ c.in_ok-wrap.ensures.built c.leave.ensures.built
