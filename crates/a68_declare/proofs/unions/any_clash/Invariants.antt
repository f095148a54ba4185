use Rattle.std.proofs.Common.{◌<◌, ℕ, get_or}
use Rattle.a68_declare.specs.Unions.{LeadsAway}
use Rattle.a68_equiv.specs.Related.{as_it_stands}
use Rattle.a68_declare.proofs.unions.any_clash.Given as goal

abbrev pub invariant-loop-place : goal.invariant-loop-place
invariant-loop-place l = (k : ℕ) → k < l.place → LeadsAway l.modes l.members (get_or l.members k 0) (as_it_stands (get_or l.members k 0)) → ⊥
