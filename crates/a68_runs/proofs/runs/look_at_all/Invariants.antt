use Rattle.a68_runs.specs.Running.{AreThere}
use Rattle.a68_runs.proofs.runs.look_at_all.Given as goal

abbrev pub invariant-loop-id : goal.invariant-loop-id
invariant-loop-id l = AreThere l.program l.id
