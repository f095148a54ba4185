use Rattle.std.proofs.Common.{◌*◌}
use Rattle.a68_equiv.specs.Graph.{AreRows}
use Rattle.a68_equiv.proofs.graph.rows.Given as goal

abbrev pub invariant-loop-id : goal.invariant-loop-id
invariant-loop-id l = AreRows l.modes (2 * l.id) l.rows.items
