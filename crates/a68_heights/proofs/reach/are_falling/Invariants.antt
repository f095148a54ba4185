use Rattle.std.proofs.Common.{ℕ, ◌<◌}
use Rattle.a68_exec.specs.Rooms.{room_at}
use Rattle.a68_heights.specs.Reach.{IsFallingAt}
use Rattle.a68_heights.proofs.reach.are_falling.Given as goal

abbrev pub invariant-loop-at : goal.invariant-loop-at
invariant-loop-at l = (k : ℕ) → k < l.at → IsFallingAt l.code l.heights (room_at l.rooms) k
