use Rattle.std.proofs.Common.{◌≡◌, ◌∙◌, ap}
use Rattle.std.proofs.lemmas.Result.{IfOk-at_ok}
use Rattle.a68_workers.specs.Runs.{TookTurns}
use Rattle.a68_workers.proofs.NoneLent.{begins_rests}
use Rattle.a68_workers.proofs.Turning.{cycled}
use Rattle.a68_world.specs.Run.{Run}
use Rattle.a68_lease.proofs.runs.run.Goals as goal

pub returns-clause-runs : goal.returns-clause-runs
returns-clause-runs g c =
    let begins = c.in_ok-world.ensures in
    let goes = c.in_ok-world-2.ensures.goes_on in
    let code : c.in_ok-world-2.world.code ≡ c.args.code = goes.code ∙ ap (λ (r : Run). r.code) begins.is in
    let fuel : c.in_ok-world-2.world.fuel ≡ c.args.fuel = goes.fuel ∙ ap (λ (r : Run). r.fuel) begins.is in
    rw (code, fuel) at c.finished.ensures.runs

pub returns-clause-cyclic : goal.returns-clause-cyclic
returns-clause-cyclic g c = λ one.
    let old = c.in_ok-world.world in
    let new = c.in_ok-world-2.world in
    let took = IfOk-at_ok (TookTurns old) c.in_ok-world-2.was (c.run_leased.ensures.alone one) in
    cycled c.args.code _ old new c.finished.result.0 c.finished.result.1 c.in_ok-world.ensures took c.finished.ensures

-- at the beginning no strand is lent
pub run_leased-requires-clause-rest : goal.run_leased-requires-clause-rest
run_leased-requires-clause-rest g c κs within = begins_rests c.args.code _ c.in_ok-world.world c.in_ok-world.ensures
