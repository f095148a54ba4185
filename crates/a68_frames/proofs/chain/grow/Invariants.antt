use Rattle.std.proofs.Common.{◌-◌, suc, length}
use Rattle.a68_frames.specs.Tables.{Extends, StayChained}
use Rattle.a68_ranges.specs.Links.{LayersAreLinked}
use Rattle.a68_frames.proofs.chain.grow.Given as goal

abbrev pub invariant-layers : goal.invariant-layers
invariant-layers l = record {
  linked : LayersAreLinked l.growing.by_layer.items l.growing.frames.items;
  extends : Extends l.initial.growing.frames.items l.growing.frames.items;
  chained : StayChained l.ranges.nests.layers l.makes l.initial.growing.by_layer.items l.initial.growing.frames.items l.growing.by_layer.items l.growing.frames.items;
}

abbrev pub decreases-layers : goal.decreases-layers
decreases-layers l = suc l.number - length l.growing.by_layer.items
