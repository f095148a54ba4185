use Rattle.a68_notes.proofs.Rowing.{AreAddedTo}
use Rattle.a68_notes.proofs.rows.add_rows_to.Given as goal

abbrev pub invariant-loop-dims : goal.invariant-loop-dims
invariant-loop-dims l = AreAddedTo l.initial.modes l.of l.dims l.modes l.known.keys
