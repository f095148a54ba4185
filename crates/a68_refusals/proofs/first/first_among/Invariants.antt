use Rattle.std.proofs.Common.{◌≤◌, length}
use Rattle.a68_refusals.specs.First.{IsBrokenFrom}
use Rattle.a68_refusals.specs.Order.{IsFirstOf}
use Rattle.a68_refusals.proofs.first.first_among.Given as goal

abbrev pub invariant-loop-left : goal.invariant-loop-left
invariant-loop-left l = record {
  within : l.left ≤ length l.tree.nodes;
  first : IsFirstOf (IsBrokenFrom (record { tree = l.tree; tags = l.tags; defined = l.defined; nodes = l.modes; ys = l.yields; fs = l.findings; ps = l.positions }) l.left) l.first;
}

abbrev pub decreases-loop-left : goal.decreases-loop-left
decreases-loop-left l = l.left
