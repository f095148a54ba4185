use Rattle.std.proofs.Common.{take}
use Rattle.a68_frames.proofs.Slotting.{Slotted}
use Rattle.a68_frames.specs.Frames.{with_slots}
use Rattle.a68_frames.proofs.slots.note_slots.Given as goal

abbrev pub invariant-loop-id : goal.invariant-loop-id
invariant-loop-id l = Slotted l.range (with_slots l.tree (take l.id-index l.list)) l.initial.places.entries l.places.entries l.slot
