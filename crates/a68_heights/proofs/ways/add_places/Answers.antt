use Rattle.std.proofs.Common.{◌<◌, length, arith}
use Rattle.a68_heights.proofs.Adding.{maps_on}
use Rattle.a68_heights.proofs.ways.add_places.Goals as goal

pub loop-to-preserved : goal.loop-to-preserved
loop-to-preserved c =
    let less : c.loop-to.to-index < length c.args.places.now = omega arith in
    maps_on (λ x. c.args.height) _ c.args.places.now c.loop-to.to-index c.loop-to.found.items _ less c.loop-to.invariant c.in_ok-push.ensures.items
