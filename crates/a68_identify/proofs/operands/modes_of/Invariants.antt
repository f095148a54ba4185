use Rattle.std.proofs.Common.{◌≡◌, take}
use Rattle.std.specs.Prelude.{map}
use Rattle.a68_identify.specs.Operators.{mode_at}
use Rattle.a68_identify.proofs.operands.modes_of.Given as goal

abbrev pub invariant-loop-declarer : goal.invariant-loop-declarer
invariant-loop-declarer l = l.items.items ≡ map (mode_at l.of) (take l.declarer-index l.declarers)
