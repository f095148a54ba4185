use Rattle.std.proofs.Common.{◌≡◌, [], rules}
use Rattle.a68_top.proofs.prepare.due_made.Goals as goal

pub returns-in-Check-clause-answer : goal.returns-in-Check-clause-answer
returns-in-Check-clause-answer g c =
    let none : c.new.result.items ≡ [] = search rules in
    rw c.in-Check.is (rw none at c.keep.ensures.says)

pub returns-in-Code-clause-answer : goal.returns-in-Code-clause-answer
returns-in-Code-clause-answer g c = rw c.in-Code.is c.listed.ensures.says

pub returns-in-Races-clause-answer : goal.returns-in-Races-clause-answer
returns-in-Races-clause-answer g c = rw c.in-Races.is (rw c.means.ensures at c.raced.ensures.answer)
