use Rattle.a68_definitions.proofs.Tagging.{tag_found, tag_none}
use Rattle.a68_definitions.proofs.applied.tag_at.Goals as goal

pub returns-then-not-applies_tag : goal.returns-then-not-applies_tag
returns-then-not-applies_tag c = tag_none c.args.tree.now c.args.node c.node-found.result.now c.applies_tag.result c.node-found.ensures.is c.applies_tag.ensures c.if-not-applies_tag.true

pub returns : goal.returns
returns c =
    tag_found c.args.tree.now c.args.node c.node-found.result.now c.applies_tag.result c.node-found.ensures.is c.applies_tag.ensures c.tag.result c.if-not-applies_tag.false
    (c.tag.ensures c.args.tree.now c.requires.ranges)
