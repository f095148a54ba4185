use Rattle.a68_read.proofs.Acting.{leap_does}
use Rattle.a68_read.proofs.act.leap.Goals as goal

pub returns : goal.returns
returns c = leap_does _ _ _ _ c.in_ok-wrap_jump.ensures.built c.leave.ensures.built
