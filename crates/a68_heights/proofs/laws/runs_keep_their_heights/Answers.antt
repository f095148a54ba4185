use Rattle.a68_heights.proofs.Worlds.{acted-keeps, runs-fit}
use Rattle.a68_heights.proofs.laws.runs_keep_their_heights.Goals as goal

pub returns : goal.returns
returns c = record { acts = acted-keeps; runs = runs-fit }
