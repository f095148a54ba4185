use Rattle.std.proofs.Common.{◌-◌, ◌≤◌}
use Rattle.a68_world.specs.Resting.{RestsMore}
use Rattle.a68_world.proofs.resting.rest_in.Given as goal

abbrev pub invariant-loop-k : goal.invariant-loop-k
invariant-loop-k l = (l.k ≤ l.to) × RestsMore l.fn.rests l.rests l.seats l.store

abbrev pub decreases-loop-k : goal.decreases-loop-k
decreases-loop-k l = l.to - l.k
