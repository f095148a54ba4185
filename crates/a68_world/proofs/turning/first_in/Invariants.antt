use Rattle.std.proofs.Common.{◌≡◌, ◌-◌, ◌<◌, ◌≤◌, ℕ, false}
use Rattle.a68_world.specs.Seats.{turn_at}
use Rattle.a68_world.proofs.turning.first_in.Given as goal

abbrev pub invariant-loop-n : goal.invariant-loop-n
invariant-loop-n l = (l.from ≤ l.n) × (l.n ≤ l.to) × ((k : ℕ) → l.from ≤ k → k < l.n → turn_at l.seats l.store k ≡ false)

abbrev pub decreases-loop-n : goal.decreases-loop-n
decreases-loop-n l = l.to - l.n
