use Rattle.a68_positions.proofs.Alone.{kept_node}
use Rattle.a68_positions.proofs.laws.positions_keep_nodes.Goals as goal

pub returns : goal.returns
returns c = λ k ys fs start nodes ps sound of defined tables few p. kept_node k ys fs start sound of defined tables p few
