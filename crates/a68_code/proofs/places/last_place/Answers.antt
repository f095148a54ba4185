use Rattle.std.proofs.Common.{◌<◌, length, arith, sym}
use Rattle.a68_code.proofs.Landing.{last_more}
use Rattle.a68_code.proofs.places.last_place.Goals as goal

pub loop-place-preserved : goal.loop-place-preserved
loop-place-preserved c =
    let lt : c.loop-place.place-index < length c.args.places.now = omega arith in
    sym (last_more c.args.places.now c.loop-place.place-index lt)
