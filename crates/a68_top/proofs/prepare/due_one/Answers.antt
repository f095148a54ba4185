use Rattle.a68_command.specs.Commands.{task_of}
use Rattle.a68_top.proofs.Told.{owes_text}
use Rattle.a68_top.proofs.prepare.due_one.Goals as goal

pub returns-clause-answer : goal.returns-clause-answer
returns-clause-answer g c =
    owes_text (task_of c.args.command.now) (g.F.Shelf.under c.args.shelf.now) _ _ _ _ c.in_ok-text.ensures.text (rw c.as_slice.ensures at c.in_ok-due_for.ensures.answer)
