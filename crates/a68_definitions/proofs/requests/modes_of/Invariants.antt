use Rattle.std.proofs.Common.{◌≡◌, map, take}
use Rattle.a68_definitions.specs.Defined.{fixed_mode_at}
use Rattle.a68_definitions.proofs.requests.modes_of.Given as goal

abbrev pub invariant-loop-declarer : goal.invariant-loop-declarer
invariant-loop-declarer l = l.items.items ≡ map (fixed_mode_at l.of) (take l.declarer-index l.declarers)
