use Rattle.std.proofs.Common.{subst}
use Rattle.a68_elab.specs.Programs.{program_of}
use Rattle.a68_ranges.specs.Twice.{StopsBy}
use Rattle.a68_command.specs.Commands.{task_of}
use Rattle.a68_top.specs.Compiles.{RefusedAs}
use Rattle.a68_top.proofs.Answering.{refuses, answers}
use Rattle.a68_top.proofs.Refusing.{if_ok}
use Rattle.a68_top.proofs.prepare.due_program.Goals as goal

pub returns-in-Err-Refused-clause-answer : goal.returns-in-Err-Refused-clause-answer
returns-in-Err-Refused-clause-answer g c =
    let why = subst (λ s. StopsBy (RefusedAs c.args.text.now) s) c.in-Err-Refused.field-0-is c.in-Err-Refused.ensures.refused in
    if_ok c.refused.result (λ due says. refuses c.args.text.now due.finish due.out due.notes (task_of c.args.command.now) c.requires.made c.in-Err-Refused.refusal why says) c.refused.ensures.answer

pub returns-in-Ok-clause-answer : goal.returns-in-Ok-clause-answer
returns-in-Ok-clause-answer g c =
    let made = c.in-Ok.made in
    if_ok c.due_made.result (λ due has. answers c.args.text.now due.finish due.out due.notes (task_of c.args.command.now) made c.in-Ok.ensures.ok
    (c.permitted_law.ensures (program_of made.program) made.code) has) c.due_made.ensures.answer
