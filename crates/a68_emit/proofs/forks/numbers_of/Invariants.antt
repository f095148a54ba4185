use Rattle.std.proofs.Common.{◌≡◌, take}
use Rattle.a68_elab.specs.Made as made
use Rattle.a68_emit.proofs.forks.numbers_of.Given as goal

-- the numbers of the units before one
abbrev pub invariant-loop-part : goal.invariant-loop-part
invariant-loop-part l = l.numbers.items ≡ made.numbers_of l.program (take l.part-index l.parts)
