use Rattle.std.proofs.Common.{◌+◌, ◌*◌, length}
use Rattle.a68_equiv.specs.Reached.{unmarked}
use Rattle.a68_equiv.proofs.Reach.{Halfway}
use Rattle.a68_equiv.proofs.walk.reached.Given as goal

abbrev pub invariant-loop-at : goal.invariant-loop-at
invariant-loop-at l = Halfway l.graph l.root l.seen.items l.noted.items

abbrev pub decreases-loop-at : goal.decreases-loop-at
decreases-loop-at l = 2 * unmarked l.seen.items + length l.noted.items
