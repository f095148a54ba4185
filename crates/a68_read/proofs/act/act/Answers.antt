use Rattle.std.proofs.lemmas.Result.{on_ok_weaker}
use Rattle.a68_read.proofs.Acting as does
use Rattle.a68_read.proofs.Defaults.{only_leave}
use Rattle.a68_read.proofs.act.act.Goals as goal

pub returns-in-Wrap : goal.returns-in-Wrap
returns-in-Wrap c = rw c.in-Wrap.is (on_ok_weaker c.wrap.result (λ built. does.wrap_does _ _ _ c.in-Wrap.kind built) c.wrap.ensures.built)

pub returns-in-SetAside : goal.returns-in-SetAside
returns-in-SetAside c = rw c.in-SetAside.is (on_ok_weaker c.set_aside.result (λ built. does.aside_does _ _ _ c.in-SetAside.kind built) c.set_aside.ensures.built)

pub returns-in-Share : goal.returns-in-Share
returns-in-Share c = rw c.in-Share.is (on_ok_weaker c.share.result (λ built. does.share_does _ _ _ built) c.share.ensures.built)

pub returns-in-Forget : goal.returns-in-Forget
returns-in-Forget c = rw c.in-Forget.is (does.forget_does _ _ _ c.forget.ensures.built)

pub returns-in_default : goal.returns-in_default
returns-in_default c =
    let d = c.in_default in
    rw (only_leave c.args.goal c.requires d.not-Begin d.not-Wrap d.not-Relate d.not-WrapLong d.not-Leap d.not-Close d.not-SetAside d.not-Share d.not-Forget d.not-Join) (does.leave_does _ _ _ c.leave.ensures.built)
