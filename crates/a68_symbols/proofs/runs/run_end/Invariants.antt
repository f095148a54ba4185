use Rattle.std.proofs.Common.{length, ◌-◌, ◌≤◌}
use Rattle.a68_symbols.specs.Bytes as bytes
use Rattle.a68_symbols.specs.Forms.{Each}
use Rattle.a68_symbols.proofs.runs.run_end.Given as goal

abbrev pub invariant-loop-end : goal.invariant-loop-end
invariant-loop-end l = record { low : l.from ≤ l.end; high : l.end ≤ length l.text; run : Each bytes.in_word l.text l.from l.end }

abbrev pub decreases-loop-end : goal.decreases-loop-end
decreases-loop-end l = length l.text - l.end
