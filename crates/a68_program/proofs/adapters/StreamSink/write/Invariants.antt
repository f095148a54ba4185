use Rattle.std.proofs.Common.{◌≡◌}
use Rattle.a68_program.proofs.adapters.StreamSink.write.Given as goal

abbrev pub invariant-loop : goal.invariant-loop
invariant-loop g l = l.self.faults ≡ l.fn.self.faults
