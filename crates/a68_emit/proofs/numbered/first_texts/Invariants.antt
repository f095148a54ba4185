use Rattle.std.proofs.Common.{◌≤◌, length}
use Rattle.a68_emit.specs.Texts.{AreFirsts}
use Rattle.a68_emit.proofs.numbered.first_texts.Given as goal

-- the nodes from one on
abbrev pub invariant-loop-left : goal.invariant-loop-left
invariant-loop-left l = AreFirsts l.program l.left l.table.items × (length l.table.items ≤ 4294967296) × (l.left ≤ length l.program.tree.nodes)

abbrev pub decreases-loop-left : goal.decreases-loop-left
decreases-loop-left l = l.left
