use Rattle.std.proofs.Common.{◌≤◌, length}
use Rattle.a68_definitions.specs.Defined.{AllBelow}
use Rattle.a68_fields.specs.Fields.{AreFieldsOf}
use Rattle.a68_identify.specs.Operators.{NumbersAreThere}
use Rattle.a68_yields.specs.Below.{AreTablesBelow}
use Rattle.a68_yields.specs.Yields.{AreYieldsFrom}
use Rattle.a68_yields.proofs.table.look_at_all.Given as goal

abbrev pub invariant-loop-left : goal.invariant-loop-left
invariant-loop-left l = record {
  within : l.left ≤ length l.tree.nodes;
  yields : AreYieldsFrom (record { tree = l.tree; tags = l.tags; of = l.of.of; defined = l.defined }) l.initial.modes l.left l.modes l.yields l.findings;
  of : NumbersAreThere l.tree l.modes l.of.of;
  defined : AllBelow (length l.modes) l.defined;
  fields : AreFieldsOf l.modes l.fields;
  tables : AreTablesBelow (length l.modes) (length l.tree.nodes) l.yields l.findings;
}

abbrev pub decreases-loop-left : goal.decreases-loop-left
decreases-loop-left l = l.left
