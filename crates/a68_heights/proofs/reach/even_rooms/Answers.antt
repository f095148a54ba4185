use Rattle.std.proofs.Common.{◌≤◌, ℕ, List, slice_index_or, subst, sym}
use Rattle.a68_exec.specs.Rooms.{room_at}
use Rattle.a68_heights.proofs.Reaching.{highest_suffices}
use Rattle.a68_heights.specs.Reach.{AreSettled}
use Rattle.a68_heights.specs.Room.{Suffices}
use Rattle.a68_heights.proofs.reach.even_rooms.Goals as goal

pub returns : goal.returns
returns c =
    let code = c.args.code.now in
    let most = c.highest-most.result in
    let settled = subst (AreSettled code) c.deref.ensures.value (c.in_ok-are_settled.ensures c.if-not-branch.false) in
    let high = subst (λ (heights : List ℕ). (at : ℕ) → slice_index_or heights at 0 ≤ most) c.deref-2.ensures.value c.highest-most.ensures in
    subst (λ (rooms : List ℕ × ℕ). Suffices code (room_at rooms)) (sym c.in_ok-rooms.ensures) (highest_suffices code c.requires c.in_ok-heights.heights.items settled most high)
