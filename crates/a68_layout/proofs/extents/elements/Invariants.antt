use Rattle.std.proofs.Common.{◌≡◌, ◌≤◌, ◌*◌, min, drop}
use Rattle.a68_layout.specs.Widths.{elements_of}
use Rattle.a68_layout.proofs.extents.elements.Given as goal

abbrev pub invariant-loop-lower : goal.invariant-loop-lower
invariant-loop-lower l = record {
  fits : l.count ≤ l.most;
  product : min l.most (l.count * elements_of (drop l.lower-index l.bounds)) ≡ min l.most (elements_of l.bounds);
}
