use Rattle.std.proofs.Common.{◌≡◌, map, take}
use Rattle.a68_ops.specs.Texts.{code_of}
use Rattle.a68_ops.proofs.printing.bytes.Given as goal

abbrev pub invariant-loop-item : goal.invariant-loop-item
invariant-loop-item l = l.items.items ≡ map code_of (take l.item-index l.chars)
