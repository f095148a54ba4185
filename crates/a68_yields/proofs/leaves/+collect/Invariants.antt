use Rattle.std.proofs.Common.{◌-◌, ◌+◌, ◌*◌, length}
use Rattle.a68_yields.proofs.Collecting.{Down, Through}
use Rattle.a68_yields.proofs.leaves.+collect.Given as goal

abbrev pub decreases-add : goal.decreases-add
decreases-add l = 2 * (length l.tree.now.nodes - l.node) + 1

abbrev pub decreases-add_all : goal.decreases-add_all
decreases-add_all l = 2 * (length l.tree.now.nodes - l.behind)

abbrev pub invariant-add-down : goal.invariant-add-down
invariant-add-down l = Down l.tree l.yields l.node l.at l.skips l.initial.found.items l.found.items

abbrev pub decreases-add-down : goal.decreases-add-down
decreases-add-down l = length l.tree.nodes - l.at

abbrev pub invariant-add_all-loop-node : goal.invariant-add_all-loop-node
invariant-add_all-loop-node l = Through l.tree l.yields l.nodes l.node-index l.initial.found.items l.found.items
