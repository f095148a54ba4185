use Rattle.a68_workers.proofs.Sole.{still}
use Rattle.a68_workers.proofs.laws.ended_runs_do_no_more.Goals as goal

pub returns : goal.returns
returns c = still
