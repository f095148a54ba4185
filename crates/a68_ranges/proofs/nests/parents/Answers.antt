use Rattle.std.proofs.Common.{length, arith}
use Rattle.a68_ranges.proofs.Parenting.{all_below, before_more, parts_read}
use Rattle.a68_ranges.proofs.nests.parents.Goals as goal

pub note_parts-requires : goal.note_parts-requires
note_parts-requires c =
    let long = c.loop-node.invariant.long in
    rw long (all_below c.loop-node.node (length c.args.tree.now.nodes) c.parts.result.now c.parts.ensures.behind)

pub loop-node-preserved : goal.loop-node-preserved
loop-node-preserved c =
    before_more c.args.tree.now c.loop-node.node c.parts.result.now (parts_read c.args.tree.now c.loop-node.node c.parts.result.now c.parts.ensures.is) (omega arith) c.parts.ensures.behind c.loop-node.parents.items c.note_parts.new.parents.items c.loop-node.invariant c.note_parts.ensures
