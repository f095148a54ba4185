use Rattle.std.proofs.Common.{◌≤◌, length, drop}
use Rattle.a68_frames.specs.Frames.{with_slots}
use Rattle.a68_frames.specs.Outlooks.{HoldsAll}
use Rattle.a68_frames.proofs.outlook.put_slots.Given as goal

abbrev pub invariant-places : goal.invariant-places
invariant-places l = record {
  within : l.place ≤ length l.list;
  holds : HoldsAll l.fn.maps l.maps l.fn.outer (with_slots l.tree (drop l.place l.list)) l.number l.map;
}

abbrev pub decreases-places : goal.decreases-places
decreases-places l = l.place
