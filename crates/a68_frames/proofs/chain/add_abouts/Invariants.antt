use Rattle.a68_frames.specs.Tables.{AreAboutBefore, AreChained}
use Rattle.a68_ranges.specs.Links.{LayersAreLinked}
use Rattle.a68_frames.proofs.chain.add_abouts.Given as goal

abbrev pub invariant-loop-at : goal.invariant-loop-at
invariant-loop-at l = record {
  linked : LayersAreLinked l.growing.by_layer.items l.growing.frames.items;
  chained : AreChained l.tree l.ranges.nests.layers l.growing.by_layer.items l.growing.frames.items;
  about : AreAboutBefore l.tree l.at l.about.items l.growing.frames.items;
}
