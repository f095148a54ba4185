use Rattle.a68_workers.proofs.Sole.{one_run}
use Rattle.a68_workers.proofs.laws.one_worker_has_one_run.Goals as goal

pub returns : goal.returns
returns c = one_run
