use Rattle.std.proofs.Common.{◌≡◌, drop}
use Rattle.a68_emit.specs.Coercing.{are_built}
use Rattle.a68_emit.proofs.coercions.are_built_along.Given as goal

-- the rest of the path is built where the whole of it is
abbrev pub invariant-loop-at : goal.invariant-loop-at
invariant-loop-at l = are_built l.modes l.goal l.path ≡ are_built l.modes l.goal (drop l.at l.path)
