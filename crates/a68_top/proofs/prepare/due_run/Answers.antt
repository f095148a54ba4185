use Rattle.a68_top.proofs.prepare.due_run.Goals as goal

pub returns-in-Run-clause-answer : goal.returns-in-Run-clause-answer
returns-in-Run-clause-answer g c = rw c.in-Run.is (rw (c.means.ensures, c.printing-asked.ensures, c.telling_of.ensures) at c.ran.ensures.answer)

pub returns-in-Make-clause-answer : goal.returns-in-Make-clause-answer
returns-in-Make-clause-answer g c = rw c.in-Make.is (rw (c.means-in-Make.ensures, c.printing-asked-in-Make.ensures) at c.ran-in-Make.ensures.answer)

pub returns-in-Trace-clause-answer : goal.returns-in-Trace-clause-answer
returns-in-Trace-clause-answer g c = rw c.in-Trace.is (rw c.means-in-Trace.ensures at c.ran-in-Trace.ensures.answer)
