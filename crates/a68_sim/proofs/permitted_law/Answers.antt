use Rattle.a68_sim.proofs.Whole.{law}
use Rattle.a68_sim.proofs.permitted_law.Goals as goal

pub returns : goal.returns
returns c = law
