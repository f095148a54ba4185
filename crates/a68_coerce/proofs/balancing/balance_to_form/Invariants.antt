use Rattle.std.proofs.Common.{◌<◌, ℕ}
use Rattle.a68_equiv.specs.declared.mode.Mode.{Mode}
use Rattle.a68_coerce.specs.Balanced.{FormsAt}
use Rattle.a68_coerce.proofs.balancing.balance_to_form.Given as goal

abbrev pub invariant-loop-i : goal.invariant-loop-i
invariant-loop-i l = (k : ℕ) → k < l.i → (to : Mode) → FormsAt l.modes l.sort l.form to l.leaves k → ⊥
