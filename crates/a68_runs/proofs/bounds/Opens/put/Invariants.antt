use Rattle.std.proofs.Common.{◌≡◌, ◌++◌, List, length}
use Rattle.a68_runs.specs.declared.bounds.Open.{Open}
use Rattle.a68_runs.proofs.bounds.Opens.put.Given as goal

abbrev pub invariant-loop-next : goal.invariant-loop-next
invariant-loop-next l = record {
  gone : List Open;
  all : l.fn.found.items ≡ l.left.items ++ gone;
  there : l.self ≡ gone ++ l.fn.self;
}

abbrev pub decreases-loop-next : goal.decreases-loop-next
decreases-loop-next l = length l.left.items
