use Rattle.std.proofs.Common.{◌≡◌, ◌+◌, ◌*◌, ◌≤◌, length, drop}
use Rattle.a68_layout.specs.Rooms.{all_inwards, room_for_within, elements_for, parts_for}
use Rattle.a68_layout.specs.Stretches.{capped}
use Rattle.a68_layout.specs.Widths.{most_cells}
use Rattle.a68_values.specs.Content.{contents_of}
use Rattle.a68_layout.proofs.counting_values.+count.Given as goal

abbrev pub decreases-count_value : goal.decreases-count_value
decreases-count_value l = 3 * l.depth

abbrev pub decreases-count_elements : goal.decreases-count_elements
decreases-count_elements l = 3 * l.depth + 1

abbrev pub decreases-count_parts : goal.decreases-count_parts
decreases-count_parts l = 3 * l.depth + 1

abbrev pub decreases-count_filled : goal.decreases-count_filled
decreases-count_filled l = 3 * l.depth + 2

abbrev pub decreases-count_structure : goal.decreases-count_structure
decreases-count_structure l = 3 * l.depth + 2

abbrev pub invariant-count_elements-loop-value : goal.invariant-count_elements-loop-value
invariant-count_elements-loop-value l = record {
  fits : l.counted ≤ most_cells + 1;
  sum : capped (l.counted + length (all_inwards l.rows (elements_for (room_for_within l.depth l.modes l.mode) (contents_of (drop l.value-index l.values)))))
      ≡ capped (l.fn.counted + length (all_inwards l.rows (elements_for (room_for_within l.depth l.modes l.mode) (contents_of l.values))));
}

abbrev pub invariant-count_parts-loop-i : goal.invariant-count_parts-loop-i
invariant-count_parts-loop-i l = record {
  fits : l.counted ≤ most_cells + 1;
  sum : capped (l.counted + length (all_inwards l.rows (parts_for (room_for_within l.depth l.modes) (drop l.i l.fields) (contents_of (drop l.i l.values)))))
      ≡ capped (l.fn.counted + length (all_inwards l.rows (parts_for (room_for_within l.depth l.modes) l.fields (contents_of l.values))));
}
