use Rattle.std.proofs.Common.{◌≡◌, ◌<◌, ℕ}
use Rattle.a68_code.specs.Walk.{Knows}
use Rattle.a68_code.proofs.valid.agree.Given as goal

abbrev pub invariant-loop-at : goal.invariant-loop-at
invariant-loop-at l = (k : ℕ) → k < l.at → (one other : ℕ) → Knows l.heights k one → Knows l.others k other → one ≡ other
