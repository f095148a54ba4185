use Rattle.std.proofs.Common.{◌≡◌, ◌<◌, length, take, arith}
use Rattle.std.proofs.lemmas.List.{take_all}
use Rattle.a68_heights.proofs.Reaching.{highest_on}
use Rattle.a68_heights.proofs.reach.highest.Goals as goal

pub loop-top-preserved : goal.loop-top-preserved
loop-top-preserved c =
    let less : c.loop-top.top-index < length c.args.tops.now = omega arith in
    highest_on c.args.tops.now c.loop-top.top-index c.loop-top.highest _ less c.loop-top.invariant c.greater-highest.ensures.one c.greater-highest.ensures.other

pub returns : goal.returns
returns c =
    let all : take c.loop-top.top-index c.args.tops.now ≡ c.args.tops.now = take_all _ _ (omega arith) in
    rw all at c.loop-top.invariant
