use Rattle.std.proofs.Common.{sym}
use Rattle.a68_frames.proofs.Needing.{applied_is}
use Rattle.a68_frames.proofs.needs.applied.Goals as goal

pub returns : goal.returns
returns c =
    rw (c.within.ensures, c.len.ensures)
    (applied_is c.args.tree.now c.args.at c.node-node.result.now c.tag-found.result c.node-node.ensures.is (sym c.if-not-is_tag.ensures) (c.tag-found.ensures c.args.tree.now c.requires.ranges))
