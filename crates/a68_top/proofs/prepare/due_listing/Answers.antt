use Rattle.std.proofs.Common.{subst}
use Rattle.a68_ranges.specs.Twice.{StopsBy}
use Rattle.a68_top.specs.Answer.{unlisted, anew}
use Rattle.a68_top.specs.Compiles.{RefusedBefore}
use Rattle.a68_top.proofs.Refusing.{if_ok}
use Rattle.a68_top.proofs.prepare.due_listing.Goals as goal

pub returns-in-Err-Refused-clause-answer : goal.returns-in-Err-Refused-clause-answer
returns-in-Err-Refused-clause-answer c =
    let why = subst (λ s. StopsBy (RefusedBefore c.args.text.now) s) c.in-Err-Refused.field-0-is c.in-Err-Refused.ensures.refused in
    if_ok c.refused.result (λ due says. unlisted c.in-Err-Refused.refusal why says) c.refused.ensures.answer

pub returns-in-Ok-clause-answer : goal.returns-in-Ok-clause-answer
returns-in-Ok-clause-answer c = anew c.in-Ok.out c.in-Ok.ensures.ok c.shown.ensures.says
