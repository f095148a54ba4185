use Rattle.std.proofs.Common.{◌≡◌, ◌++◌, length}
use Rattle.std.specs.Prelude.{reverse}
use Rattle.a68_acts.specs.Rowing.{joined}
use Rattle.a68_rows.proofs.displays.add_all.Given as goal

abbrev pub invariant-loop-value : goal.invariant-loop-value
invariant-loop-value l = l.items.items ++ joined (reverse l.rows.items) ≡ joined (reverse l.fn.rows.items)

abbrev pub decreases-loop-value : goal.decreases-loop-value
decreases-loop-value l = length l.rows.items
