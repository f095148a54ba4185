use Rattle.std.proofs.Common.{◌<◌, ℕ, get_or}
use Rattle.a68_equiv.specs.Related.{AreMeeklyRelated}
use Rattle.a68_equiv.proofs.firm.one_linked.Given as goal

abbrev pub invariant-loop-other : goal.invariant-loop-other
invariant-loop-other l = (k : ℕ) → k < l.other-index → AreMeeklyRelated l.modes l.one (get_or l.others k 0) → ⊥
