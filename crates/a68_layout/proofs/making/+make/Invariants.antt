use Rattle.std.proofs.Common.{◌+◌, ◌*◌, ◌≤◌, length, drop}
use Rattle.a68_layout.specs.Rooms.{all_inwards, copies, room_within, rooms_of, needs_within}
use Rattle.a68_layout.specs.Widths.{most_cells}
use Rattle.a68_layout.proofs.Made.{IsRest}
use Rattle.a68_layout.proofs.making.+make.Given as goal

abbrev pub decreases-make_room : goal.decreases-make_room
decreases-make_room l = 3 * l.depth

abbrev pub decreases-make_copies : goal.decreases-make_copies
decreases-make_copies l = 3 * l.depth + 1

abbrev pub decreases-make_fields : goal.decreases-make_fields
decreases-make_fields l = 3 * l.depth + 1

abbrev pub decreases-make_row : goal.decreases-make_row
decreases-make_row l = 3 * l.depth + 2

abbrev pub invariant-make_copies-loop-left : goal.invariant-make_copies-loop-left
invariant-make_copies-loop-left l = record {
  within : l.left ≤ l.count;
  rest : IsRest l.made.cells.items l.made.next (all_inwards l.rows (copies l.left (room_within l.depth l.modes l.mode l.bounds)))
      l.fn.made.cells.items l.fn.made.next (all_inwards l.rows (copies l.count (room_within l.depth l.modes l.mode l.bounds)));
}

abbrev pub decreases-make_copies-loop-left : goal.decreases-make_copies-loop-left
decreases-make_copies-loop-left l = l.left

abbrev pub invariant-make_fields-loop-field : goal.invariant-make_fields-loop-field
invariant-make_fields-loop-field l = record {
  within : l.at ≤ length l.bounds;
  few : length (all_inwards l.rows (rooms_of (room_within l.depth l.modes) (needs_within l.depth l.modes) (drop l.field-index l.fields) (drop l.at l.bounds))) ≤ most_cells;
  rest : IsRest l.made.cells.items l.made.next
      (all_inwards l.rows (rooms_of (room_within l.depth l.modes) (needs_within l.depth l.modes) (drop l.field-index l.fields) (drop l.at l.bounds)))
      l.fn.made.cells.items l.fn.made.next (all_inwards l.rows (rooms_of (room_within l.depth l.modes) (needs_within l.depth l.modes) l.fields l.bounds));
}
