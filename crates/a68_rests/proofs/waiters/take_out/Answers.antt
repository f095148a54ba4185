use Rattle.a68_rests.proofs.Waits.{kept_out}
use Rattle.a68_rests.proofs.waiters.take_out.Goals as goal

pub returns-clause-kept : goal.returns-clause-kept
returns-clause-kept c = kept_out c.args.set.now c.remove-was.new.self c.args.cell c.args.number c.remove-was.ensures.updates
