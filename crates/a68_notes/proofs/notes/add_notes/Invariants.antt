use Rattle.a68_notes.specs.Notes.{asked_of, AreNotesBefore}
use Rattle.a68_notes.proofs.notes.add_notes.Given as goal

abbrev pub invariant-loop-node : goal.invariant-loop-node
invariant-loop-node l = AreNotesBefore l.meaning.of (asked_of l.tree l.meaning) l.node l.items.items
