use Rattle.std.proofs.Common.{take}
use Rattle.a68_equiv.specs.Reached.{Visited}
use Rattle.a68_equiv.proofs.walk.visit.Given as goal

abbrev pub invariant-loop-node : goal.invariant-loop-node
invariant-loop-node l = Visited (take l.node-index l.nodes) l.fn.seen.items l.fn.noted.items l.seen.items l.noted.items
