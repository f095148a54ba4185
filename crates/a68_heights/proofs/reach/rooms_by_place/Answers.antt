use Rattle.std.proofs.Common.{ℕ, List, subst}
use Rattle.a68_exec.specs.Rooms.{room_at}
use Rattle.a68_heights.proofs.Reaching.{falling_suffice, room_some}
use Rattle.a68_heights.specs.Reach.{AreFalling, AreSettled}
use Rattle.a68_heights.proofs.reach.rooms_by_place.Goals as goal

pub returns : goal.returns
returns c =
    let code = c.args.code.now in
    let rooms = c.in_ok-rooms.rooms in
    let settled = subst (AreSettled code) c.deref.ensures.value (c.in_ok-are_settled.ensures c.if-not-branch.false) in
    let falling = subst (λ (heights : List ℕ). AreFalling code heights (room_at rooms)) c.deref-2.ensures.value (c.in_ok-are_falling.ensures c.if-not-branch-2.false) in
    falling_suffice code c.requires c.in_ok-walk.walk.heights.items settled (room_at rooms) (room_some rooms) falling
