use Rattle.std.proofs.Common.{length}
use Rattle.a68_emit.proofs.Ordered.{all-before}
use Rattle.a68_emit.proofs.forks.numbers_of.Goals as goal
use Rattle.a68_parts.proofs.Between.{between-each}
use Rattle.std.specs.Prelude.{slice_index_or}

pub node-requires : goal.node-requires
node-requires c = (between-each c.args.id (length c.args.program.now.tree.nodes) c.loop-part.part-index c.args.parts.now c.requires c.loop-part-test.true).1

pub unit_number-requires : goal.unit_number-requires
unit_number-requires c =
    all-before c.args.program.now.tree.nodes (slice_index_or c.args.parts.now c.loop-part.part-index 0) c.node.result.now c.node.ensures.is
