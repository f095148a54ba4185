use Rattle.a68_top.proofs.Ending.{has_run}
use Rattle.a68_top.proofs.Refusing.{if_ok}
use Rattle.a68_top.specs.Answer.{IsTurned}
use Rattle.a68_top.proofs.running.ran.Goals as goal

pub returns-in-Ok-clause-answer : goal.returns-in-Ok-clause-answer
returns-in-Ok-clause-answer g c =
    if_ok c.finished.result (λ due f. has_run c.args.made c.in-Ok.code c.in-Ok.ensures.code c.args.means.fuel (IsTurned c.args.means.workers) c.in-Ok.kept c.args.asked due c.in-Ok.ensures.runs c.in-Ok.ensures.cyclic f) c.finished.ensures.says
