use Rattle.std.proofs.Common.{◌≡◌, take}
use Rattle.a68_ops.specs.Yields.{char_values}
use Rattle.a68_ops.proofs.texts.chars.Given as goal

abbrev pub invariant-loop-byte : goal.invariant-loop-byte
invariant-loop-byte l = l.items.items ≡ char_values (take l.byte-index l.bytes)
