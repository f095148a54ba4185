use Rattle.std.proofs.Common.{◌≤◌, [], length}
use Rattle.a68_emit.specs.Texts.{AreFirstUnits}
use Rattle.a68_emit.proofs.numbered.first_units.Given as goal

-- the nodes from one on
abbrev pub invariant-loop-left : goal.invariant-loop-left
invariant-loop-left l = AreFirstUnits l.program 0 [] l.left l.table.items × (l.left ≤ length l.program.tree.nodes)

abbrev pub decreases-loop-left : goal.decreases-loop-left
decreases-loop-left l = l.left
