use Rattle.a68_frames.specs.Tables.{AreSlotsBefore}
use Rattle.a68_frames.proofs.slots.add_ranges.Given as goal

abbrev pub invariant-loop-range : goal.invariant-loop-range
invariant-loop-range l = AreSlotsBefore l.tree l.range l.slots.places.entries l.slots.counts.items l.slots.makes.items
