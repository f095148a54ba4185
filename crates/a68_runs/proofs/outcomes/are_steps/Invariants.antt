use Rattle.std.proofs.Common.{◌≡◌, ◌≤◌, ◌-◌, drop, length}
use Rattle.a68_elab.specs.Runs.{are_steps}
use Rattle.a68_runs.proofs.outcomes.are_steps.Given as goal

-- the steps from here on are as the whole of them
abbrev pub invariant-loop-at : goal.invariant-loop-at
invariant-loop-at l = (l.at ≤ length l.ids) × (are_steps l.program l.wanted l.ids ≡ are_steps l.program l.wanted (drop l.at l.ids))

abbrev pub decreases-loop-at : goal.decreases-loop-at
decreases-loop-at l = length l.ids - l.at
