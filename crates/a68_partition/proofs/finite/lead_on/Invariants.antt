use Rattle.std.proofs.Common.{◌<◌, ℕ}
use Rattle.a68_partition.specs.Finite.{LeadsOn}
use Rattle.a68_partition.proofs.finite.lead_on.Given as goal

abbrev pub invariant-loop-v : goal.invariant-loop-v
invariant-loop-v l = (k : ℕ) → k < l.v → LeadsOn l.rows l.classes k
