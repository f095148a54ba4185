use Rattle.a68_heights.proofs.Bounding.{innermost, whole}
use Rattle.a68_heights.proofs.Worlds.{runs-small}
use Rattle.a68_heights.proofs.laws.activations_fit.Goals as goal

pub returns : goal.returns
returns c = record { innermost = innermost; whole = whole; runs = runs-small }
