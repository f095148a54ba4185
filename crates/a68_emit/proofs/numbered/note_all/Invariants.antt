use Rattle.std.proofs.Common.{◌≤◌, ◌+◌, drop, length}
use Rattle.a68_emit.specs.Texts.{AreFirstUnits}
use Rattle.a68_emit.proofs.numbered.note_all.Given as goal

-- the units from one on
abbrev pub invariant-loop-left : goal.invariant-loop-left
invariant-loop-left l = AreFirstUnits l.program l.place (drop l.left l.parts) (l.id + 1) l.table × (l.left ≤ length l.parts)

abbrev pub decreases-loop-left : goal.decreases-loop-left
decreases-loop-left l = l.left
