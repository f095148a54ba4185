use Rattle.a68_mode_table.proofs.Shapes.{one_node}
use Rattle.a68_mode_table.proofs.laws.nodes_are_one.Goals as goal

pub returns : goal.returns
returns c = λ nodes mode one other sound p q. one_node nodes sound mode one other p q
