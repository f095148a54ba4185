use Rattle.std.proofs.Common.{◌≡◌, take}
use Rattle.a68_equiv.specs.ModeKeys.{marked}
use Rattle.a68_equiv.proofs.keys.with_marks.Given as goal

abbrev pub invariant-loop-number : goal.invariant-loop-number
invariant-loop-number l = l.key.items ≡ marked (take l.number-index l.code)
