use Rattle.std.proofs.Common.{length}
use Rattle.a68_notes.specs.Needs.{AreNeeds, TextUsesBefore}
use Rattle.a68_notes.specs.Notes.{asked_of}
use Rattle.a68_notes.proofs.needs.lower_operators.Given as goal

abbrev pub invariant-loop-at : goal.invariant-loop-at
invariant-loop-at l = AreNeeds l.tree (TextUsesBefore (asked_of l.tree l.meaning) l.at) (length l.tree.nodes) l.needs
