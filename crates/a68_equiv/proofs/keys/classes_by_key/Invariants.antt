use Rattle.std.proofs.Common.{take}
use Rattle.a68_equiv.specs.ModeKeys.{HasModeKey}
use Rattle.a68_partition.specs.Rounds.{SoFar}
use Rattle.a68_equiv.proofs.keys.classes_by_key.Given as goal

abbrev pub invariant-loop-i : goal.invariant-loop-i
invariant-loop-i l = SoFar (HasModeKey l.modes l.classes) l.table.entries (take l.i l.classes) l.i
