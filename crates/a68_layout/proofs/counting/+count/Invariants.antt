use Rattle.std.proofs.Common.{◌≡◌, ◌+◌, ◌*◌, ◌≤◌, length, drop}
use Rattle.a68_layout.specs.Rooms.{all_inwards, room_within, rooms_of, needs_within}
use Rattle.a68_layout.specs.Stretches.{capped}
use Rattle.a68_layout.specs.Widths.{most_cells}
use Rattle.a68_layout.proofs.counting.+count.Given as goal

abbrev pub decreases-count_room : goal.decreases-count_room
decreases-count_room l = 2 * l.depth

abbrev pub decreases-count_row : goal.decreases-count_row
decreases-count_row l = 2 * l.depth + 1

abbrev pub decreases-count_fields : goal.decreases-count_fields
decreases-count_fields l = 2 * l.depth + 1

abbrev pub invariant-count_fields-loop-field : goal.invariant-count_fields-loop-field
invariant-count_fields-loop-field l = record {
  fits : l.counted ≤ most_cells + 1;
  within : l.at ≤ length l.bounds;
  sum : capped (l.counted + length (all_inwards l.rows (rooms_of (room_within l.depth l.modes) (needs_within l.depth l.modes) (drop l.field-index l.fields) (drop l.at l.bounds))))
      ≡ capped (l.fn.counted + length (all_inwards l.rows (rooms_of (room_within l.depth l.modes) (needs_within l.depth l.modes) l.fields l.bounds)));
}
