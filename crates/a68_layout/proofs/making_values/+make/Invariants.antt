use Rattle.std.proofs.Common.{◌+◌, ◌*◌, drop}
use Rattle.a68_layout.specs.Rooms.{all_inwards, room_for_within, elements_for, parts_for}
use Rattle.a68_layout.proofs.Made.{IsRest}
use Rattle.a68_values.specs.Content.{contents_of}
use Rattle.a68_layout.proofs.making_values.+make.Given as goal

abbrev pub decreases-make_value : goal.decreases-make_value
decreases-make_value l = 3 * l.depth

abbrev pub decreases-make_elements : goal.decreases-make_elements
decreases-make_elements l = 3 * l.depth + 1

abbrev pub decreases-make_parts : goal.decreases-make_parts
decreases-make_parts l = 3 * l.depth + 1

abbrev pub decreases-make_filled : goal.decreases-make_filled
decreases-make_filled l = 3 * l.depth + 2

abbrev pub decreases-make_structure : goal.decreases-make_structure
decreases-make_structure l = 3 * l.depth + 2

abbrev pub invariant-make_elements-loop-value : goal.invariant-make_elements-loop-value
invariant-make_elements-loop-value l =
    IsRest l.made.cells.items l.made.next (all_inwards l.rows (elements_for (room_for_within l.depth l.modes l.mode) (contents_of (drop l.value-index l.values))))
    l.fn.made.cells.items l.fn.made.next (all_inwards l.rows (elements_for (room_for_within l.depth l.modes l.mode) (contents_of l.values)))

abbrev pub invariant-make_parts-loop-i : goal.invariant-make_parts-loop-i
invariant-make_parts-loop-i l =
    IsRest l.made.cells.items l.made.next (all_inwards l.rows (parts_for (room_for_within l.depth l.modes) (drop l.i l.fields) (contents_of (drop l.i l.values))))
    l.fn.made.cells.items l.fn.made.next (all_inwards l.rows (parts_for (room_for_within l.depth l.modes) l.fields (contents_of l.values)))
