use Rattle.std.proofs.Common.{◌≡◌, ◌+◌}
use Rattle.a68_parts.proofs.Reaching.{AllReach}
use Rattle.a68_parts.proofs.rowing.rows_back.Given as goal

abbrev pub invariant-loop-count : goal.invariant-loop-count
invariant-loop-count l = (l.left + l.count ≡ l.dims) × AllReach l.modes l.goal l.path l.dims l.of l.count
