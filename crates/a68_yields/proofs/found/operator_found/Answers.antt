use Rattle.a68_declare.proofs.Standing.{fifteen}
use Rattle.a68_yields.proofs.Within.{operator_is, operator_there}
use Rattle.a68_yields.proofs.found.operator_found.Goals as goal

pub returns-clause-there : goal.returns-clause-there
returns-clause-there c = operator_there c.args.tree.now c.args.modes.now c.args.of.now.of c.args.node _ _ c.in_ok-found.found (fifteen c.args.modes.now c.modes-shapes.ensures.holds)
    (rw c.modes-shapes.ensures.is at c.in_ok-found.ensures)

pub returns-clause-found : goal.returns-clause-found
returns-clause-found c = operator_is c.args.tree.now c.args.modes.now c.args.of.now.of c.args.node _ c.in_ok-found.found (rw c.modes-shapes.ensures.is at c.in_ok-found.ensures)
