use Rattle.a68_ops.proofs.Subsets.{or_is_within}
use Rattle.a68_ops.proofs.laws.at_most_is_told_by_places.Goals as goal

pub returns : goal.returns
returns c = or_is_within
