use Rattle.std.proofs.Common.{◌≡◌, ◌<◌, ℕ, List, Some, slice_get}
use Rattle.std.specs.Prelude.{map}
use Rattle.a68_coerce.specs.declared.leaf.Leaf.{Leaf}
use Rattle.a68_identify.specs.Identified.{OperandFits}
use Rattle.a68_identify.proofs.fitting.all_fit.Given as goal

abbrev pub invariant-loop-i : goal.invariant-loop-i
invariant-loop-i l = (k : ℕ) → k < l.i → (o : List Leaf) (p : ℕ) → slice_get (map (λ o. o.now) l.operands) k ≡ Some o → slice_get l.parameters k ≡ Some p → OperandFits l.modes o p
