use Rattle.std.proofs.Common.{length}
use Rattle.a68_ranges.proofs.Parenting.{all_below}
use Rattle.a68_ranges.proofs.declared.add_phrase.Goals as goal

pub add_all-requires : goal.add_all-requires
add_all-requires c = all_below c.args.phrase (length c.args.tree.now.nodes) c.parts.result.now c.parts.ensures.behind
