use Rattle.a68_notes.proofs.Rowing.{AreAddedUpTo}
use Rattle.a68_notes.proofs.rows.add_all.Given as goal

abbrev pub invariant-loop-mode : goal.invariant-loop-mode
invariant-loop-mode l = AreAddedUpTo l.initial.modes l.mode l.modes l.known.keys
