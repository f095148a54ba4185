use Rattle.std.proofs.Common.{◌≡◌}
use Rattle.a68_rests.proofs.opened.shut.Given as goal

abbrev pub invariant-loop-i : goal.invariant-loop-i
invariant-loop-i l = record { same : l.cells ≡ l.fn.cells }
