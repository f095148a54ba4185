use Rattle.a68_declare.specs.Numbering.{NodesAreNumbered}
use Rattle.a68_declare.proofs.numbering.number_all.Given as goal

abbrev pub invariant-loop-id : goal.invariant-loop-id
invariant-loop-id l = NodesAreNumbered l.modes l.classes.of l.id l.table.entries l.to.items l.firsts.items
