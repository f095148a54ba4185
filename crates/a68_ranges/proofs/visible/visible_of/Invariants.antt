use Rattle.std.proofs.Common.{◌≤◌, ◌-◌, length}
use Rattle.a68_ranges.specs.Visible.{AreRoots}
use Rattle.a68_ranges.proofs.visible.visible_of.Given as goal

abbrev pub invariant-layers : goal.invariant-layers
invariant-layers l = record {
  within : length l.roots.items ≤ length l.nests.layers;
  are : AreRoots l.tree l.sort l.nests.layers l.maps l.roots.items (length l.roots.items);
}

abbrev pub decreases-layers : goal.decreases-layers
decreases-layers l = length l.nests.layers - length l.roots.items
