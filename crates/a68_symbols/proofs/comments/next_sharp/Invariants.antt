use Rattle.std.proofs.Common.{length, ◌-◌, ◌≤◌}
use Rattle.a68_symbols.specs.Runs.{NoSharp}
use Rattle.a68_symbols.proofs.comments.next_sharp.Given as goal

abbrev pub invariant-loop-n : goal.invariant-loop-n
invariant-loop-n l = record { low : 1 ≤ l.n; none : NoSharp l.text l.n }

abbrev pub decreases-loop-n : goal.decreases-loop-n
decreases-loop-n l = length l.text - l.n
