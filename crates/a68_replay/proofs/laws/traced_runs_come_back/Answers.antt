use Rattle.a68_replay.proofs.Once.{traced_back}
use Rattle.a68_replay.proofs.laws.traced_runs_come_back.Goals as goal

pub returns : goal.returns
returns c = traced_back
