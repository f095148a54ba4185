use Rattle.a68_top.proofs.prepare.due_for.Goals as goal

pub returns-in-LayOut-clause-answer : goal.returns-in-LayOut-clause-answer
returns-in-LayOut-clause-answer g c = rw c.in-LayOut.is c.due_listing.ensures.answer
