use Rattle.std.proofs.Common.{take}
use Rattle.a68_declarers.specs.Actual.{AreMarked}
use Rattle.a68_declarers.proofs.actual.mark.Given as goal

abbrev pub invariant-loop-node : goal.invariant-loop-node
invariant-loop-node l = AreMarked l.tree (take l.node-index l.nodes) l.fn.marks.items l.marks.items
