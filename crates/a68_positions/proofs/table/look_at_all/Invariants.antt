use Rattle.std.proofs.Common.{length}
use Rattle.a68_definitions.specs.Defined.{AllBelow}
use Rattle.a68_identify.specs.Operators.{NumbersAreThere}
use Rattle.a68_positions.specs.Below.{ArePositionsBelow}
use Rattle.a68_positions.specs.Positions.{ArePositionsFrom}
use Rattle.a68_yields.specs.Below.{AreTablesBelow}
use Rattle.a68_positions.proofs.table.look_at_all.Given as goal

abbrev pub invariant-loop-node : goal.invariant-loop-node
invariant-loop-node l = record {
  positions : ArePositionsFrom (record { tree = l.tree; tags = l.tags; of = l.of; defined = l.defined }) l.yields l.findings l.initial.modes l.node l.modes l.positions;
  below : ArePositionsBelow (length l.modes) l.positions;
  of : NumbersAreThere l.tree l.modes l.of;
  defined : AllBelow (length l.modes) l.defined;
  tables : AreTablesBelow (length l.modes) (length l.tree.nodes) l.yields l.findings;
}
