use Rattle.std.proofs.Common.{arith, length, ◌<◌}
use Rattle.std.proofs.lemmas.List.{take_more}
use Rattle.a68_builder.specs.Known.{AreKnown}
use Rattle.a68_builder.proofs.labels.known_by.Goals as goal

pub loop-pair-preserved : goal.loop-pair-preserved
loop-pair-preserved c =
    let lt : c.loop-pair.pair-index < length c.args.pairs.now = omega arith in
    rw (take_more c.args.pairs.now c.loop-pair.pair-index (0, 0) lt) (c.in_ok-know.ensures _ c.loop-pair.invariant)
