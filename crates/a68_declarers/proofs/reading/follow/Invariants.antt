use Rattle.std.proofs.Common.{◌<◌, ℕ, length}
use Rattle.a68_ranges.specs.Nodes.{IsPart}
use Rattle.a68_declarers.proofs.reading.follow.Given as goal

abbrev pub invariant-loop-id : goal.invariant-loop-id
invariant-loop-id l = (n p : ℕ) → n < l.id → IsPart l.tree n p → (n < p) × (p < length l.tree.nodes)
