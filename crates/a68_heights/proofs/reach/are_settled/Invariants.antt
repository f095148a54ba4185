use Rattle.std.proofs.Common.{ℕ, ◌<◌}
use Rattle.a68_heights.specs.Reach.{IsSettledAt}
use Rattle.a68_heights.proofs.reach.are_settled.Given as goal

abbrev pub invariant-loop-at : goal.invariant-loop-at
invariant-loop-at l = (k : ℕ) → k < l.at → IsSettledAt l.code l.heights k
