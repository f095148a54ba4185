use Rattle.std.proofs.Common.{◌≡◌}
use Rattle.a68_notes.specs.Voiding.{is_proc_behind}
use Rattle.a68_notes.proofs.voided.is_proc_behind.Given as goal

abbrev pub invariant-loop-left : goal.invariant-loop-left
invariant-loop-left l = is_proc_behind l.most l.modes l.mode ≡ is_proc_behind l.left l.modes l.at

abbrev pub decreases-loop-left : goal.decreases-loop-left
decreases-loop-left l = l.left
