use Rattle.std.proofs.Common.{refl, rules, sym, ◌∙◌}
use Rattle.a68_emit.proofs.Linking.{next_tree}
use Rattle.a68_emit.proofs.chains.next_link.Goals as goal

pub returns-clause-tree : goal.returns-clause-tree
returns-clause-tree c =
    next_tree c.args.program.now.of.now c.args.program.now.sight c.in-Some.id c.node-node.result.now c.note-note.result.now c.link_of-next.result _ _ _ c.node-node.ensures.is c.note-note.ensures
    (c.surely_runs.ensures c.if-not-surely_runs.false) (c.is_link.ensures.kind c.if-not-is_link.false) (c.is_link.ensures.path c.if-not-is_link.false) (search rules) refl (search rules)
    c.link_of-next.ensures.tree c.link_of-next.ensures.within c.link_of-next.ensures.node
