use Rattle.std.proofs.Common.{length}
use Rattle.a68_ranges.proofs.Parenting.{all_below}
use Rattle.a68_ranges.proofs.layers.enter.Goals as goal

pub enter_choice-requires-clause-there : goal.enter_choice-requires-clause-there
enter_choice-requires-clause-there c = all_below c.args.parent.node (length c.args.tree.now.nodes) c.parts-parts.result.now c.parts-parts.ensures.behind

pub enter_loop-requires-clause-there : goal.enter_loop-requires-clause-there
enter_loop-requires-clause-there c = all_below c.args.parent.node (length c.args.tree.now.nodes) c.parts-parts.result.now c.parts-parts.ensures.behind
