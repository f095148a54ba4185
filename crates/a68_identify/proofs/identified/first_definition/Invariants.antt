use Rattle.std.specs.Prelude.{map}
use Rattle.a68_identify.proofs.Firsts.{NoneBefore}
use Rattle.a68_identify.specs.Identified.{DefinitionFits}
use Rattle.a68_identify.proofs.identified.first_definition.Given as goal

abbrev pub invariant-loop-definition : goal.invariant-loop-definition
invariant-loop-definition l = NoneBefore (DefinitionFits l.tree l.modes l.of.of l.formula.sign (map (λ o. o.now) l.formula.operands.now)) l.list l.definition-index
