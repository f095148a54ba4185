use Rattle.std.proofs.Common.{◌≡◌, length}
use Rattle.a68_modes.specs.Known.{AreAllStarts}
use Rattle.a68_modes.proofs.widths.all_starts.Given as goal

abbrev pub invariant-loop-shape : goal.invariant-loop-shape
invariant-loop-shape l = record {
  count : length l.all.items ≡ l.shape-index;
  starts : AreAllStarts l.shapes l.all.items;
}
