use Rattle.std.proofs.Common.{◌≡◌, ◌≤◌, ◌+◌, length}
use Rattle.a68_lookahead.specs.Ahead as spec
use Rattle.a68_lookahead.proofs.look.behind.Given as goal

abbrev pub invariant-loop-sym : goal.invariant-loop-sym
invariant-loop-sym l = record { room : l.depth + length l.rest ≤ length l.text; same : spec.behind l.sought l.depth l.due l.rest ≡ spec.behind l.sought 0 l.fn.first l.text }

abbrev pub decreases-loop-sym : goal.decreases-loop-sym
decreases-loop-sym l = length l.rest
