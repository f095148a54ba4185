use Rattle.std.proofs.Common.{◌≡◌, ◌≤◌, ◌+◌, length, min, take}
use Rattle.a68_modes.specs.Known.{AreStarts}
use Rattle.a68_modes.specs.Widths.{most_cells, width_of_fields, width_within}
use Rattle.a68_modes.proofs.widths.starts_of.Given as goal

abbrev pub invariant-loop-field : goal.invariant-loop-field
invariant-loop-field l = record {
  count : length l.starts.items ≡ l.field-index + 1;
  last : l.before ≡ min (most_cells + 1) (width_of_fields (width_within (length l.shapes) l.shapes) (take l.field-index l.fields));
  starts : AreStarts l.shapes l.fields l.starts.items;
}
