use Rattle.std.proofs.Common.{◌+◌, ◌*◌, drop}
use Rattle.a68_layout.specs.Rooms.{room_for_within, parts_for}
use Rattle.a68_layout.proofs.Founds.{IsLeft}
use Rattle.a68_values.specs.Content.{contents_of}
use Rattle.a68_layout.proofs.finding.+find_value.Given as goal

abbrev pub decreases-find_value : goal.decreases-find_value
decreases-find_value l = 3 * l.depth

abbrev pub decreases-find_parts : goal.decreases-find_parts
decreases-find_parts l = 3 * l.depth + 1

abbrev pub decreases-find_structure : goal.decreases-find_structure
decreases-find_structure l = 3 * l.depth + 2

abbrev pub invariant-find_parts-loop-i : goal.invariant-find_parts-loop-i
invariant-find_parts-loop-i l =
    IsLeft l.modes l.rows.items (parts_for (room_for_within l.depth l.modes) (drop l.i l.fields) (contents_of (drop l.i l.values)))
    l.fn.rows.items (parts_for (room_for_within l.depth l.modes) l.fields (contents_of l.values))
