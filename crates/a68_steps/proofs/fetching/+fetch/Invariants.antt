use Rattle.std.proofs.Common.{◌≡◌, ◌+◌, ◌*◌, ◌≤◌, drop, length}
use Rattle.a68_layout.specs.Widths.{width_within, width_of_fields}
use Rattle.a68_acts.specs.Fetching as fetching
use Rattle.a68_acts.specs.Fetching.{fetch_within}
use Rattle.a68_steps.proofs.fetching.+fetch.Given as goal

abbrev pub decreases-fetch_in : goal.decreases-fetch_in
decreases-fetch_in l = 2 * l.depth

abbrev pub decreases-fetch_fields : goal.decreases-fetch_fields
decreases-fetch_fields l = 2 * l.depth + 1

abbrev pub invariant-fetch_fields-loop-left : goal.invariant-fetch_fields-loop-left
invariant-fetch_fields-loop-left l = record {
  fits : l.left ≤ length l.fields;
  whole : l.cell + width_of_fields (width_within l.depth l.modes) (drop l.left l.fields) ≡ l.fn.end;
  made : l.steps ≡ fetching.fetch_fields (fetch_within l.depth l.modes) (width_within l.depth l.modes) (drop l.left l.fields) l.cell l.fn.steps;
}

abbrev pub decreases-fetch_fields-loop-left : goal.decreases-fetch_fields-loop-left
decreases-fetch_fields-loop-left l = l.left
