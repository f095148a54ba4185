use Rattle.std.proofs.Common.{◌≡◌, ◌++◌, length}
use Rattle.a68_notes.specs.Voiding.{voiding}
use Rattle.a68_notes.proofs.voided.voiding.Given as goal

abbrev pub invariant-loop-coercion : goal.invariant-loop-coercion
invariant-loop-coercion l = l.items.items ++ voiding l.left l.modes l.at ≡ voiding (length l.modes) l.modes l.mode

abbrev pub decreases-loop-coercion : goal.decreases-loop-coercion
decreases-loop-coercion l = l.left
