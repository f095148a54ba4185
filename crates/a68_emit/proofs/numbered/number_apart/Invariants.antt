use Rattle.a68_emit.proofs.Ordered.{Numbers}
use Rattle.a68_emit.proofs.numbered.number_apart.Given as goal

-- the bytes before one
abbrev pub invariant-loop-byte : goal.invariant-loop-byte
invariant-loop-byte l = Numbers l.program l.byte l.apart.items l.texts.items l.units.items l.text_count l.unit_count
