use Rattle.std.proofs.Common.{◌≡◌, ◌<◌, ℕ, Some}
use Rattle.std.specs.Prelude.{slice_get}
use Rattle.a68_coerce.specs.declared.leaf.Leaf.{Leaf}
use Rattle.a68_coerce.specs.Balanced.{LeafLeads}
use Rattle.a68_coerce.proofs.balancing.first_that_leads.Given as goal

abbrev pub invariant-loop-i : goal.invariant-loop-i
invariant-loop-i l = (k : ℕ) (other : Leaf) → k < l.i → slice_get l.leaves k ≡ Some other → LeafLeads l.modes l.sort l.to other → ⊥
