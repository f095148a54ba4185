use Rattle.a68_yields.proofs.Alone.{yields_keep}
use Rattle.a68_yields.proofs.laws.yields_keep_nodes.Goals as goal

pub returns : goal.returns
returns c = λ k start nodes ys fs sound few p. yields_keep k start sound p few
