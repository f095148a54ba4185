use Rattle.std.proofs.Common.{◌≡◌, ◌≤◌, ◌*◌, min, drop}
use Rattle.a68_layout.specs.Views.{bounds_of}
use Rattle.a68_layout.specs.Widths.{elements_of}
use Rattle.a68_layout.proofs.extents.elements_seen.Given as goal

abbrev pub invariant-loop-dim : goal.invariant-loop-dim
invariant-loop-dim l = record {
  fits : l.count ≤ l.most;
  product : min l.most (l.count * elements_of (bounds_of (drop l.dim-index l.dims))) ≡ min l.most (elements_of (bounds_of l.dims));
}
