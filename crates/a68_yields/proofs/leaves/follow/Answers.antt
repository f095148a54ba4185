use Rattle.std.proofs.Common.{length}
use Rattle.a68_ranges.specs.Nodes.{parts_at}
use Rattle.a68_tree.specs.Trees.{AllBetween}
use Rattle.a68_yields.proofs.Collecting.{between_chosen}
use Rattle.a68_yields.proofs.leaves.follow.Goals as goal

pub returns : goal.returns
returns c =
    let behind : AllBetween c.args.node (length c.args.tree.now.nodes) (parts_at c.args.tree.now c.args.node) = rw (← c.parts_of-parts.ensures.is) c.parts_of-parts.ensures.behind in
    between_chosen c.args.tree.now c.args.node (length c.args.tree.now.nodes) behind
