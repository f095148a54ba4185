use Rattle.std.proofs.Common.{◌≡◌, ◌+◌, ◌-◌, ◌*◌, ◌≤◌, drop, length, take}
use Rattle.a68_layout.specs.Widths.{width_within, width_of_fields}
use Rattle.a68_values.specs.Content.{contents_of}
use Rattle.a68_acts.specs.Fetching as fetching
use Rattle.a68_acts.specs.Fetching.{assign_within}
use Rattle.a68_steps.proofs.fetching.+assign.Given as goal

abbrev pub decreases-assign_in : goal.decreases-assign_in
decreases-assign_in l = 2 * l.depth

abbrev pub decreases-assign_fields : goal.decreases-assign_fields
decreases-assign_fields l = 2 * l.depth + 1

abbrev pub invariant-assign_fields-loop-left : goal.invariant-assign_fields-loop-left
invariant-assign_fields-loop-left l = record {
  fits : l.left ≤ length l.fields;
  taken : l.values ≡ take (length l.fn.values - length l.fields + l.left) l.fn.values;
  whole : l.cell + width_of_fields (width_within l.depth l.modes) (drop l.left l.fields) ≡ l.fn.end;
  made : l.steps
      ≡ fetching.assign_fields (assign_within l.depth l.modes) (width_within l.depth l.modes) (drop l.left l.fields) l.cell (contents_of (drop (length l.fn.values - length l.fields + l.left) l.fn.values)) l.fn.steps;
}

abbrev pub decreases-assign_fields-loop-left : goal.decreases-assign_fields-loop-left
decreases-assign_fields-loop-left l = l.left
