use Rattle.std.proofs.Common.{length}
use Rattle.a68_symbols.proofs.Turns.{Done}
use Rattle.a68_symbols.proofs.cut.collect.Given as goal

abbrev pub invariant-loop-rest : goal.invariant-loop-rest
invariant-loop-rest l = Done l.bytes l.long l.at l.rest l.found

abbrev pub decreases-loop-rest : goal.decreases-loop-rest
decreases-loop-rest l = length l.rest
