use Rattle.a68_declarers.proofs.Marking.{MarkedBefore}
use Rattle.a68_declarers.proofs.actual.actual.Given as goal

abbrev pub invariant-loop-id : goal.invariant-loop-id
invariant-loop-id l = MarkedBefore l.tree l.which l.id l.marks.items
