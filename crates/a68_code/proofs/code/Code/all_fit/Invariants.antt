use Rattle.std.proofs.Common.{ℕ, ◌<◌}
use Rattle.a68_code.specs.Walk.{FitsAt}
use Rattle.a68_code.proofs.code.Code.all_fit.Given as goal

abbrev pub invariant-loop-at : goal.invariant-loop-at
invariant-loop-at l = (k : ℕ) → k < l.at → FitsAt l.self k
