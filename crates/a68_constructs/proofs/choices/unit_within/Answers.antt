use Rattle.std.proofs.Common.{◌∙◌, arith, sym}
use Rattle.a68_constructs.proofs.Awaiting.{node_parts, one_only, out_is}
use Rattle.a68_constructs.proofs.choices.unit_within.Goals as goal
use Rattle.a68_parts.proofs.Between.{between-each}

pub returns-clause-tree : goal.returns-clause-tree
returns-clause-tree c =
    let a = c.args.program.now.of.now in
    let node = c.node-node.result.now in
    let ids = c.parts-parts.result.now in
    let same = node_parts a c.args.id node ids c.node-node.ensures.is c.parts-parts.ensures.is in
    let b = between-each c.args.id _ 0 ids c.parts-parts.ensures.behind (omega arith) in
    out_is a c.args.program.now.sight c.args.id _ node c.note-note.result.now c.node-node.ensures.is c.note-note.ensures
    (c.surely_runs.ensures c.if-not-surely_runs.false) (c.is_bare_out.ensures.kind c.if-not-is_bare_out.false) (c.is_bare_out.ensures.path c.if-not-is_bare_out.false)
    (same ∙ one_only ids (omega arith)) b.0

pub returns-clause-within : goal.returns-clause-within
returns-clause-within c = between-each c.args.id _ 0 c.parts-parts.result.now c.parts-parts.ensures.behind (omega arith)
