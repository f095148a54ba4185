use Rattle.std.proofs.Common.{◌≡◌, ◌≢◌, ◌<◌, ℕ, Some}
use Rattle.std.specs.Prelude.{slice_get}
use Rattle.a68_coerce.specs.declared.leaf.Leaf.{Leaf}
use Rattle.a68_coerce.specs.Balanced.{LeafSuits}
use Rattle.a68_coerce.proofs.balancing.others_suit.Given as goal

abbrev pub invariant-loop-i : goal.invariant-loop-i
invariant-loop-i l = (k : ℕ) (other : Leaf) → k < l.i → slice_get l.leaves k ≡ Some other → k ≢ l.except → LeafSuits l.modes l.to other
