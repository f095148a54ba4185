use Rattle.std.specs.Prelude.{map}
use Rattle.a68_identify.proofs.Firsts.{NoneBefore}
use Rattle.a68_identify.specs.Identified.{StandardFits}
use Rattle.a68_identify.proofs.identified.first_standard.Given as goal

abbrev pub invariant-loop-operator : goal.invariant-loop-operator
invariant-loop-operator l = NoneBefore (StandardFits l.modes (map (λ o. o.now) l.operands)) l.operators l.operator-index
