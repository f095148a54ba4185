use Rattle.std.proofs.Common.{◌≡◌, ◌++◌, take, map}
use Rattle.a68_ops.specs.Texts.{code_of}
use Rattle.a68_ops.specs.Yields.{char_values}
use Rattle.a68_ops.proofs.texts.add.Given as goal

abbrev pub invariant-loop-item : goal.invariant-loop-item
invariant-loop-item l = l.items.items ≡ l.initial.items.items ++ char_values (map code_of (take l.item-index l.more))
