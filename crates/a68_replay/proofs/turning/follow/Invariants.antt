use Rattle.std.proofs.Common.{◌-◌, length}
use Rattle.a68_replay.proofs.Picking.{IsAt}
use Rattle.a68_replay.proofs.turning.follow.Given as goal

abbrev pub invariant-loop-at : goal.invariant-loop-at
invariant-loop-at l = IsAt l.fn.world l.picks l.at l.until l.world

abbrev pub decreases-loop-at : goal.decreases-loop-at
decreases-loop-at l = length l.picks - l.at
