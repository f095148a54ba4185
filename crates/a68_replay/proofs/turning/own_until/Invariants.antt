use Rattle.std.proofs.Common.{◌≡◌, ◌<◌, ◌≤◌, ◌-◌, ℕ, get_or, length}
use Rattle.a68_replay.proofs.turning.own_until.Given as goal

abbrev pub invariant-loop-until : goal.invariant-loop-until
invariant-loop-until l = record {
  low : l.from ≤ l.until;
  high : l.until ≤ length l.picks;
  own : (k : ℕ) → l.from ≤ k → k < l.until → get_or l.picks k 0 ≡ 0;
}

abbrev pub decreases-loop-until : goal.decreases-loop-until
decreases-loop-until l = length l.picks - l.until
