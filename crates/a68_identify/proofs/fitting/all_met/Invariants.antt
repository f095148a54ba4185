use Rattle.std.proofs.Common.{take}
use Rattle.std.specs.Prelude.{map}
use Rattle.a68_identify.specs.Apart.{AreMet}
use Rattle.a68_identify.proofs.fitting.all_met.Given as goal

abbrev pub invariant-loop-leaves : goal.invariant-loop-leaves
invariant-loop-leaves l = AreMet l.modes l.classes.of (map (λ o. o.now) (take l.leaves-index l.operands)) l.mets.items
