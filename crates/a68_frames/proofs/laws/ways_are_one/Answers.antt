use Rattle.a68_frames.proofs.Finding.{one_way}
use Rattle.a68_frames.proofs.laws.ways_are_one.Goals as goal

pub returns : goal.returns
returns c = one_way
