use Rattle.std.proofs.Common.{◌≡◌, length}
use Rattle.a68_acts.specs.Steps.{silent}
use Rattle.a68_steps.proofs.going.do_silent.Given as goal

abbrev pub invariant-loop : goal.invariant-loop
invariant-loop l = silent l.steps l.left ≡ silent l.fn.steps l.fn.left

abbrev pub decreases-loop : goal.decreases-loop
decreases-loop l = length l.steps
