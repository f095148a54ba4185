use Rattle.std.proofs.Common.{ap}
use Rattle.a68_layout.specs.Rooms.{copies, room_within}
use Rattle.a68_layout.proofs.Founds.{among-one, found-none}
use Rattle.a68_layout.proofs.finding.find_copies.Goals as goal

pub returns-then-count-eq0 : goal.returns-then-count-eq0
returns-then-count-eq0 c =
    found-none _ _ _ (ap (λ n. copies n (room_within c.args.depth c.args.modes.now c.args.mode c.args.bounds.now)) c.if-count-eq0.true)

pub returns : goal.returns
returns c =
    let r = room_within c.args.depth c.args.modes.now c.args.mode c.args.bounds.now in
    c.in_ok-repeat.ensures c.args.modes.now r (among-one c.args.modes.now _ _ _ r c.new-one.ensures.items c.deref.ensures.value c.in_ok-find_room.ensures)
