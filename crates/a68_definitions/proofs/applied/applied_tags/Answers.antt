use Rattle.a68_definitions.proofs.Tagging.{tags_more}
use Rattle.a68_definitions.proofs.applied.applied_tags.Goals as goal

pub loop-node-preserved : goal.loop-node-preserved
loop-node-preserved c = rw c.in_ok-push.ensures.items (tags_more c.args.tree.now c.loop-node.node _ _ c.loop-node.invariant c.tag_at.ensures)
