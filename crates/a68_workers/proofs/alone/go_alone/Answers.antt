use Rattle.std.proofs.lemmas.Result.{on_ok_weaker}
use Rattle.a68_workers.proofs.NoneLent.{alone_rests}
use Rattle.a68_workers.proofs.TurningAlone.{took_alone}
use Rattle.a68_workers.proofs.alone.go_alone.Goals as goal

pub returns-clause-took : goal.returns-clause-took
returns-clause-took c =
    on_ok_weaker c.go_alone-done.result (λ gone. λ first from took. took_alone first c.args.world.now c.go_alone-done.new.self from took gone) c.go_alone-done.ensures.alone

pub returns-clause-rest : goal.returns-clause-rest
returns-clause-rest c =
    on_ok_weaker c.go_alone-done.result (λ gone. alone_rests c.args.world.now c.go_alone-done.new.self gone c.requires) c.go_alone-done.ensures.alone
