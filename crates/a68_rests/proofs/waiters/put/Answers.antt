use Rattle.a68_rests.proofs.Waits.{kept_put}
use Rattle.a68_rests.proofs.waiters.put.Goals as goal

pub returns-clause-kept : goal.returns-clause-kept
returns-clause-kept c = kept_put c.args.set.now c.insert.new.self (record { cell = c.args.cell; number = c.args.number }) c.insert.result c.insert.ensures.updates c.insert.ensures.err
