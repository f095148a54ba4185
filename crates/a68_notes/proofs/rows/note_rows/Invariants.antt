use Rattle.std.proofs.Common.{take}
use Rattle.a68_notes.specs.KnownRows.{AreRowsKnown}
use Rattle.a68_notes.proofs.rows.note_rows.Given as goal

abbrev pub invariant-loop-mode : goal.invariant-loop-mode
invariant-loop-mode l = AreRowsKnown (take l.mode l.modes) l.known.keys
