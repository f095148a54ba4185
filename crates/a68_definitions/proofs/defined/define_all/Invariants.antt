use Rattle.std.proofs.Common.{◌≤◌, length}
use Rattle.a68_definitions.specs.Defined.{AllBelow, AreBelow, AreDefinedFrom}
use Rattle.a68_definitions.proofs.defined.define_all.Given as goal

abbrev pub invariant-loop-left : goal.invariant-loop-left
invariant-loop-left l = record {
  within : l.left ≤ length l.tree.nodes;
  defined : AreDefinedFrom l.tree l.of l.initial.modes l.left l.modes l.table;
  of : AreBelow (length l.modes) l.of;
  table : AllBelow (length l.modes) l.table;
}

abbrev pub decreases-loop-left : goal.decreases-loop-left
decreases-loop-left l = l.left
