use Rattle.std.proofs.Common.{◌<◌, ℕ, get_or}
use Rattle.a68_equiv.specs.Ways.{IsWellFormed}
use Rattle.a68_equiv.proofs.formed.ill_formed.Given as goal

abbrev pub invariant-loop-place : goal.invariant-loop-place
invariant-loop-place l = (k : ℕ) → k < l.place → IsWellFormed l.modes (get_or l.roots k 0)
