use Rattle.std.proofs.Common.{length}
use Rattle.a68_ranges.proofs.Parenting.{all_below}
use Rattle.a68_ranges.proofs.declared.add_declared.Goals as goal

pub add_all-requires : goal.add_all-requires
add_all-requires c = all_below c.args.range (length c.args.tree.now.nodes) c.parts-parts.result.now c.parts-parts.ensures.behind

pub add_phrases-requires : goal.add_phrases-requires
add_phrases-requires c = all_below c.args.range (length c.args.tree.now.nodes) c.parts-parts.result.now c.parts-parts.ensures.behind
