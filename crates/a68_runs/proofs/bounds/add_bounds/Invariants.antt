use Rattle.std.proofs.Common.{◌≡◌, ◌++◌}
use Rattle.a68_runs.specs.Opens.{all_of, looks_of, those_of}
use Rattle.a68_runs.proofs.bounds.add_bounds.Given as goal

-- with those that are yet to be added, all are there
abbrev pub invariant-loop-next : goal.invariant-loop-next
invariant-loop-next l = l.bounds.items ++ all_of l.program l.opens ≡ l.initial.bounds.items ++ those_of l.program l.fn.first

abbrev pub decreases-loop-next : goal.decreases-loop-next
decreases-loop-next l = looks_of l.program l.opens
