use Rattle.a68_layout.specs.Measuring.{AreKnown}
use Rattle.a68_layout.proofs.measured.learn.Given as goal

abbrev pub invariant-loop-mode : goal.invariant-loop-mode
invariant-loop-mode l = AreKnown l.modes l.known
