use Rattle.a68_top.proofs.Ending.{has_followed, has_no_end, has_stuck}
use Rattle.a68_top.proofs.Refusing.{if_ok}
use Rattle.a68_top.specs.Commands.{no_turn}
use Rattle.a68_top.proofs.replaying.followed.Goals as goal

pub returns-in-Ok-Ran-clause-answer : goal.returns-in-Ok-Ran-clause-answer
returns-in-Ok-Ran-clause-answer c =
    if_ok c.finished.result (λ due f. has_followed c.args.made c.args.picks.now c.in-Ok-Ran.field-0 c.in-Ok-Ran.ensures c.in-Ok-Ran.code c.in-Ok-Ran.kept due c.in-Ok-Ran.field-0-is f) c.finished.ensures.says

pub returns-in-Ok-Stuck-clause-answer : goal.returns-in-Ok-Stuck-clause-answer
returns-in-Ok-Stuck-clause-answer c =
    if_ok c.refused.result (λ due says. no_turn c.in-Ok-Stuck.place (has_stuck c.args.made c.args.picks.now c.in-Ok-Stuck.field-0 c.in-Ok-Stuck.ensures c.in-Ok-Stuck.code c.in-Ok-Stuck.place c.in-Ok-Stuck.field-0-is) says) c.refused.ensures.answer

pub returns-in-Ok-Short-clause-answer : goal.returns-in-Ok-Short-clause-answer
returns-in-Ok-Short-clause-answer c =
    if_ok c.refused-in-Ok-Short.result (λ due says. has_no_end c.args.made c.args.picks.now c.in-Ok-Short.field-0 c.in-Ok-Short.ensures c.in-Ok-Short.code c.in-Ok-Short.place due c.in-Ok-Short.field-0-is says) c.refused-in-Ok-Short.ensures.answer
