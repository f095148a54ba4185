use Rattle.std.proofs.Common.{reverse, length}
use Rattle.a68_read.specs.Readings.{Reading}
use Rattle.a68_read.proofs.program.read.Given as goal

abbrev pub invariant-loop-goals : goal.invariant-loop-goals
invariant-loop-goals l = record { reads : Reading l.text (reverse l.goals.items) l.rest l.drafting }

abbrev pub decreases-loop-goals : goal.decreases-loop-goals
decreases-loop-goals l = length l.rest
