use Rattle.std.proofs.Common.{◌≡◌, take}
use Rattle.a68_code.specs.Flow.{entrances_in}
use Rattle.a68_code.proofs.valid.entrances_in.Given as goal

abbrev pub invariant-loop-text : goal.invariant-loop-text
invariant-loop-text l = l.places.items ≡ entrances_in l.yields (take l.text-index l.texts)
