use Rattle.std.proofs.Common.{◌≡◌, map, take}
use Rattle.a68_acts.specs.Rowing.{integer}
use Rattle.a68_rows.proofs.ints.integers.Given as goal

abbrev pub invariant-loop-value : goal.invariant-loop-value
invariant-loop-value l = l.ints.items ≡ map integer (take l.value-index l.values)
