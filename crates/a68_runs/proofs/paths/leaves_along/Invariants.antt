use Rattle.std.proofs.Common.{◌≡◌, drop}
use Rattle.a68_elab.specs.Runs.{path_leaves}
use Rattle.a68_runs.proofs.paths.leaves_along.Given as goal

-- the rest of the path leaves what the whole of it does
abbrev pub invariant-loop-i : goal.invariant-loop-i
invariant-loop-i l = path_leaves l.modes l.goal l.fn.mode l.fn.left l.path ≡ path_leaves l.modes l.goal l.at.mode l.at.left (drop l.i l.path)
