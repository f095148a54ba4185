use Rattle.std.proofs.Common.{◌≡◌, ◌≤◌, ◌-◌, drop, length}
use Rattle.a68_elab.specs.Runs.{specs_run}
use Rattle.a68_runs.proofs.conformity.specs_run.Given as goal

abbrev pub invariant-loop-at : goal.invariant-loop-at
invariant-loop-at l = (l.at ≤ length l.specs) × (specs_run l.program l.wanted (drop l.at l.specs) ≡ specs_run l.program l.wanted l.specs)

abbrev pub decreases-loop-at : goal.decreases-loop-at
decreases-loop-at l = length l.specs - l.at
