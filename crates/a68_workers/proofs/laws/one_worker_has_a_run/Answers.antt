use Rattle.a68_workers.proofs.There.{a_run}
use Rattle.a68_workers.proofs.laws.one_worker_has_a_run.Goals as goal

pub returns : goal.returns
returns c = a_run
