use Rattle.a68_world.specs.Leases.{IsHeld}
use Rattle.a68_machine_tests.proofs.leases.acts_often.Given as goal

abbrev pub invariant-loop : goal.invariant-loop
invariant-loop g l = IsHeld l.world l.strand
