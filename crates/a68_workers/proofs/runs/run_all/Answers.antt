use Rattle.std.proofs.Common.{rules}
use Rattle.std.proofs.lemmas.Result.{IfOk-weaker}
use Rattle.a68_workers.specs.Runs.{GoesFrom}
use Rattle.a68_workers.proofs.Going.{goes_through}
use Rattle.a68_workers.proofs.runs.run_all.Goals as goal

pub returns-clause-goes_on : goal.returns-clause-goes_on
returns-clause-goes_on g c =
    let old = c.args.world in
    let now = c.run_shared-world.result in
    IfOk-weaker c.run_alone-2.result (GoesFrom now) (GoesFrom old) (λ new. goes_through old now new c.run_shared-world.ensures.goes) c.run_alone-2.ensures.goes_on

-- several take no turns
pub returns-clause-alone : goal.returns-clause-alone
returns-clause-alone g c = search rules
