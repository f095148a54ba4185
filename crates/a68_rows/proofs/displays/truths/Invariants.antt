use Rattle.std.proofs.Common.{◌≡◌, take}
use Rattle.a68_acts.specs.Rowing.{truths}
use Rattle.a68_rows.proofs.displays.truths.Given as goal

abbrev pub invariant-loop-letter : goal.invariant-loop-letter
invariant-loop-letter l = l.items.items ≡ truths (take l.letter-index l.letters)
