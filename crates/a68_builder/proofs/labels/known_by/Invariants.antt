use Rattle.std.specs.Prelude.{take}
use Rattle.a68_builder.specs.Known.{AreKnown}
use Rattle.a68_builder.proofs.labels.known_by.Given as goal

abbrev pub invariant-loop-pair : goal.invariant-loop-pair
invariant-loop-pair l = AreKnown (take l.pair-index l.pairs) l.known.entries
