use Rattle.std.proofs.Common.{◌<◌, length, arith}
use Rattle.a68_frames.specs.Tables.{TellsFrames}
use Rattle.a68_frames.proofs.Chaining.{about_more, tells_by}
use Rattle.a68_frames.proofs.chain.add_abouts.Goals as goal

pub loop-at-preserved : goal.loop-at-preserved
loop-at-preserved c =
    let tree = c.args.tree.now in
    let at = c.loop-at.at in
    let new = c.reach.new.growing.frames.items in
    let known = c.in_ok-nest.ensures in
    let chained = known.chained tree c.requires.makes c.loop-at.invariant.chained in
    let are = c.requires.ranges in
    let long = are.nests.long in
    let low : at < length c.args.ranges.now.nests.about = omega arith in
    let tells : TellsFrames tree new at c.in_ok-nest.nest =
    rw known.is.0 (tells_by tree c.args.ranges.now at c.about.result c.reach.new.growing.by_layer.items new are low (c.about.ensures.ranges tree are) chained known.is.1) in
    record {
      linked = known.linked;
      chained = chained;
      about = rw c.in_ok-push.ensures.items (about_more tree at c.loop-at.about.items c.loop-at.growing.frames.items new c.in_ok-nest.nest c.loop-at.invariant.about known.extends known.linked.out known.below tells);
    }
