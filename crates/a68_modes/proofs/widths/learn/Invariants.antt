use Rattle.a68_modes.specs.Known.{AreKnown}
use Rattle.a68_modes.proofs.widths.learn.Given as goal

abbrev pub invariant-loop-mode : goal.invariant-loop-mode
invariant-loop-mode l = AreKnown l.shapes l.known
