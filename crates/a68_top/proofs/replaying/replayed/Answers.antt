use Rattle.std.proofs.Common.{subst}
use Rattle.a68_replay.specs.Schedules.{IsReadOf}
use Rattle.a68_top.proofs.Refusing.{if_ok}
use Rattle.a68_top.specs.Commands.{bad, picked}
use Rattle.std.specs.Prelude.{Err}
use Rattle.a68_top.proofs.replaying.replayed.Goals as goal

pub returns-in-Ok-clause-answer : goal.returns-in-Ok-clause-answer
returns-in-Ok-clause-answer c = if_ok c.followed.result (λ due has. picked c.in-Ok.picks c.in-Ok.ensures has) c.followed.ensures.answer

pub returns-in-Err-Bad-clause-answer : goal.returns-in-Err-Bad-clause-answer
returns-in-Err-Bad-clause-answer c =
    let why = subst (λ s. IsReadOf c.args.schedule.now (Err s)) c.in-Err-Bad.field-0-is c.in-Err-Bad.ensures in
    if_ok c.refused.result (λ due says. bad c.in-Err-Bad.place why says) c.refused.ensures.answer
