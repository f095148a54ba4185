use Rattle.std.proofs.Common.{◌≡◌, ◌≤◌, drop, length}
use Rattle.a68_elab.specs.Made as made
use Rattle.a68_emit.proofs.numbered.behind_all.Given as goal

-- the nodes from one on
abbrev pub invariant-loop-left : goal.invariant-loop-left
invariant-loop-left l = (l.end ≡ made.behind_all (drop l.left l.program.tree.nodes)) × (l.end ≤ 4294967296) × (l.left ≤ length l.program.tree.nodes)

abbrev pub decreases-loop-left : goal.decreases-loop-left
decreases-loop-left l = l.left
