use Rattle.a68_fields.specs.Fields.{AreFieldsBefore}
use Rattle.a68_fields.proofs.table.add_modes.Given as goal

abbrev pub invariant-loop-node : goal.invariant-loop-node
invariant-loop-node l = AreFieldsBefore l.modes l.fields.entries l.node
