use Rattle.std.proofs.Common.{◌<◌, ℕ, get_or}
use Rattle.a68_partition.specs.Finite.{IsSettled}
use Rattle.a68_partition.proofs.finite.are_settled.Given as goal

abbrev pub invariant-loop-item : goal.invariant-loop-item
invariant-loop-item l = (k : ℕ) → k < l.item-index → IsSettled l.classes (get_or l.items k 0)
