use Rattle.a68_command.proofs.Verbs.{split_is_task}
use Rattle.a68_command.proofs.laws.splits_are_tasks.Goals as goal

pub returns : goal.returns
returns c = split_is_task
