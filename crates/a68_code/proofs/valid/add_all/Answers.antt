use Rattle.std.proofs.Common.{◌<◌, length, arith}
use Rattle.a68_code.proofs.Entering.{joined_on}
use Rattle.a68_code.proofs.valid.add_all.Goals as goal

pub loop-place-preserved : goal.loop-place-preserved
loop-place-preserved c =
    let less : c.loop-place.place-index < length c.args.more.now = omega arith in
    joined_on _ c.args.more.now c.loop-place.place-index c.loop-place.places.items _ less c.loop-place.invariant c.in_ok-push.ensures.items
