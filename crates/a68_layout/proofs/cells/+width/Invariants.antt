use Rattle.std.proofs.Common.{◌≡◌, ◌+◌, ◌*◌, ◌≤◌, min, drop}
use Rattle.a68_layout.specs.Widths.{most_cells, width_within, width_of_fields}
use Rattle.a68_layout.proofs.cells.+width.Given as goal

abbrev pub decreases-count_on : goal.decreases-count_on
decreases-count_on l = 2 * l.depth

abbrev pub decreases-count_fields : goal.decreases-count_fields
decreases-count_fields l = 2 * l.depth + 1

abbrev pub invariant-count_fields-loop-field : goal.invariant-count_fields-loop-field
invariant-count_fields-loop-field l = record {
  fits : l.counted ≤ most_cells + 1;
  sum : min (most_cells + 1) (l.counted + width_of_fields (width_within l.depth l.modes) (drop l.field-index l.fields))
      ≡ min (most_cells + 1) (l.fn.counted + width_of_fields (width_within l.depth l.modes) l.fields);
}
