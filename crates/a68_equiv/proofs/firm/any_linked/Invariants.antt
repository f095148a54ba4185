use Rattle.std.proofs.Common.{◌<◌, ℕ, get_or}
use Rattle.std.specs.List.{Contains}
use Rattle.a68_equiv.specs.Related.{AreMeeklyRelated}
use Rattle.a68_equiv.proofs.firm.any_linked.Given as goal

abbrev pub invariant-loop-one : goal.invariant-loop-one
invariant-loop-one l = (k : ℕ) → k < l.one-index → (y : ℕ) × Contains l.others y × AreMeeklyRelated l.modes (get_or l.ones k 0) y → ⊥
