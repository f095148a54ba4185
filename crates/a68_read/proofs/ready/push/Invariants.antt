use Rattle.std.proofs.Common.{◌≡◌, ◌++◌, reverse, drop, ◌≤◌, length}
use Rattle.a68_read.proofs.ready.push.Given as goal

abbrev pub invariant-loop-at : goal.invariant-loop-at
invariant-loop-at l = record { within : l.at ≤ length l.more; pushed : reverse l.goals.items ≡ drop l.at l.more ++ reverse l.fn.goals.items }

abbrev pub decreases-loop-at : goal.decreases-loop-at
decreases-loop-at l = l.at
