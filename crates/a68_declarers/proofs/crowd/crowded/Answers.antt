use Rattle.std.proofs.Common.{◌≡◌, ◌+◌, length, arith}
use Rattle.a68_declarers.proofs.Crowding.{none_before}
use Rattle.a68_declarers.proofs.crowd.crowded.Goals as goal

pub halves-init : goal.halves-init
halves-init c =
    let tree = c.args.tree.now in
    let none = none_before tree (length tree.nodes) in
    let few = c.requires in
    let is = c.count-count.ensures.is in
    let within = c.count-count.ensures.within in
    record { order = omega arith; most = omega arith; before = omega arith; behind = omega arith }

pub returns : goal.returns
returns c =
    let order = c.halves.invariant.order in
    let e : c.halves.high ≡ c.halves.low + 1 = omega arith in
    record { before = c.halves.invariant.before; here = rw (← e) c.halves.invariant.behind }
