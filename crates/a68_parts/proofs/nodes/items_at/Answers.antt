use Rattle.std.proofs.Common.{length, arith}
use Rattle.a68_parts.proofs.Between.{between-each, between-above}
use Rattle.a68_parts.proofs.nodes.items_at.Goals as goal

pub returns-then-matches-clause-between : goal.returns-then-matches-clause-between
returns-then-matches-clause-between c =
    let b = between-each c.args.id (length c.args.program.now.tree.nodes) 0 c.args.parts.now c.requires (omega arith) in
    between-above _ _ _ _ b.0 c.parts.ensures.behind
