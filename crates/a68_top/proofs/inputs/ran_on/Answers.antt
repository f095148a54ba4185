use Rattle.std.proofs.Common.{subst}
use Rattle.a68_input.specs.Lines.{LinesOf}
use Rattle.std.specs.Prelude.{Err}
use Rattle.a68_top.proofs.Refusing.{if_ok}
use Rattle.a68_top.specs.Commands.{beyond_input, on_lines}
use Rattle.a68_top.proofs.inputs.ran_on.Goals as goal

pub returns-in-Ok-clause-answer : goal.returns-in-Ok-clause-answer
returns-in-Ok-clause-answer g c = if_ok c.joined.result (λ due has. on_lines c.in-Ok.lines c.in-Ok.ensures.lines.0 c.in-Ok.ensures.lines.1 has) c.joined.ensures.answer

pub returns-in-Err-Long-clause-answer : goal.returns-in-Err-Long-clause-answer
returns-in-Err-Long-clause-answer g c =
    let why = subst (λ s. LinesOf c.args.input.now (Err s)) c.in-Err-Long.field-0-is c.in-Err-Long.ensures.lines in
    if_ok c.refused.result (λ due says. beyond_input c.in-Err-Long.place why says) (rw c.in-Err-Long.field-0-is at c.refused.ensures.answer)
