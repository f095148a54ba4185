use Rattle.std.proofs.Common.{rules}
use Rattle.a68_yields.proofs.Collecting.{collected_below}
use Rattle.a68_yields.proofs.leaves.leaves_of.Goals as goal

pub returns-clause-below : goal.returns-clause-below
returns-clause-below c n below = collected_below c.args.tree.now c.args.yields.now n below c.args.node _ _ c.in_ok-add.field-0 c.in_ok-add.ensures (Prim.search rules) c.new-found.ensures.items
