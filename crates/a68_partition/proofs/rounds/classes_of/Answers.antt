use Rattle.std.proofs.Common.{◌≡◌, ◌<◌, length, get_or, take, refl, arith}
use Rattle.std.proofs.Math.Seq.{take-length}
use Rattle.std.proofs.lemmas.List.{take_more, map-append}
use Rattle.a68_partition.proofs.rounds.classes_of.Goals as goal

pub returns : goal.returns
returns c =
    let all : c.loop-item.item-index ≡ length c.args.items.now = omega arith in
    rw (all, take-length) at c.loop-item.invariant

pub loop-item-preserved : goal.loop-item-preserved
loop-item-preserved c =
    let items = c.args.items.now in
    let i = c.loop-item.item-index in
    let lt : i < length items = omega arith in
    rw (c.in_ok-push.ensures.items, take_more items i 0 lt, map-append (λ w. get_or c.args.classes.now w 0) (take i items), c.loop-item.invariant) refl
