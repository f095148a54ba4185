use Rattle.std.proofs.Common.{◌≡◌, ◌++◌, map}
use Rattle.a68_ops.specs.Texts.{code_of, times}
use Rattle.a68_ops.specs.Yields.{char_values}
use Rattle.a68_ops.proofs.texts.add_times.Given as goal

abbrev pub invariant-loop-turn : goal.invariant-loop-turn
invariant-loop-turn l = l.items.items ≡ l.initial.items.items ++ char_values (times l._turn (map code_of l.more))
