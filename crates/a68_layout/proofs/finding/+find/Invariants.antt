use Rattle.std.proofs.Common.{◌+◌, ◌*◌, ◌≤◌, length, drop}
use Rattle.a68_layout.specs.Rooms.{room_within, rooms_of, needs_within}
use Rattle.a68_layout.proofs.Founds.{IsLeft}
use Rattle.a68_layout.proofs.finding.+find.Given as goal

abbrev pub decreases-find_room : goal.decreases-find_room
decreases-find_room l = 2 * l.depth

abbrev pub decreases-find_fields : goal.decreases-find_fields
decreases-find_fields l = 2 * l.depth + 1

abbrev pub invariant-find_fields-loop-field : goal.invariant-find_fields-loop-field
invariant-find_fields-loop-field l = record {
  within : l.at ≤ length l.bounds;
  left : IsLeft l.modes l.rows.items (rooms_of (room_within l.depth l.modes) (needs_within l.depth l.modes) (drop l.field-index l.fields) (drop l.at l.bounds))
      l.fn.rows.items (rooms_of (room_within l.depth l.modes) (needs_within l.depth l.modes) l.fields l.bounds);
}
