use Rattle.a68_ranges.proofs.Single.{priority_one}
use Rattle.a68_ranges.proofs.laws.priorities_are_one.Goals as goal

pub returns : goal.returns
returns c = priority_one
