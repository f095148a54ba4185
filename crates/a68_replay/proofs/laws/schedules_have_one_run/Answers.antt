use Rattle.a68_replay.proofs.Once.{one_run, replays_one}
use Rattle.a68_replay.proofs.laws.schedules_have_one_run.Goals as goal

pub returns : goal.returns
returns c = record { run = one_run; outcome = replays_one }
