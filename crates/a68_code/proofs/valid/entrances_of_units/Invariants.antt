use Rattle.std.proofs.Common.{◌≡◌, take}
use Rattle.a68_code.specs.Flow.{entrances_of_units}
use Rattle.a68_code.proofs.valid.entrances_of_units.Given as goal

abbrev pub invariant-loop-instr : goal.invariant-loop-instr
invariant-loop-instr l = l.places.items ≡ entrances_of_units (take l.instr-index l.list)
