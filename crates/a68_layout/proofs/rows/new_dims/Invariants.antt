use Rattle.std.proofs.Common.{◌≡◌, ◌≤◌, ◌*◌, ◌++◌, drop}
use Rattle.a68_layout.specs.Widths.{elements_of, most_cells, strides}
use Rattle.a68_layout.proofs.rows.new_dims.Given as goal

abbrev pub invariant-loop-lower : goal.invariant-loop-lower
invariant-loop-lower l = record {
  few : l.stride ≤ most_cells;
  whole : l.stride ≡ l.width * elements_of (drop l.lower-index l.bounds);
  none : elements_of (drop l.lower-index l.bounds) ≡ 0 → l.width ≡ 0;
  there : l.dims.items ++ strides l.width (drop l.lower-index l.bounds) ≡ strides l.width l.bounds;
}
