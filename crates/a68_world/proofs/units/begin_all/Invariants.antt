use Rattle.std.proofs.Common.{take}
use Rattle.a68_world.specs.Stepping.{AreUnits, units_at}
use Rattle.a68_world.proofs.units.begin_all.Given as goal

abbrev pub invariant-loop-i : goal.invariant-loop-i
invariant-loop-i l = AreUnits l.code (units_at l.code l.chain (take l.i l.entrances)) l.first l.units.items
