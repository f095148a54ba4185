use Rattle.a68_workers.proofs.Going.{over_ended}
use Rattle.a68_workers.proofs.NoneLent.{acts_rests, over_rests}
use Rattle.a68_workers.proofs.Turning.{took_ended, took_more}
use Rattle.a68_workers.proofs.alone.turn_first.Goals as goal

pub returns-in-Acted-clause-took : goal.returns-in-Acted-clause-took
returns-in-Acted-clause-took c =
    λ first from took. took_more first c.args.world.now c.turn.new.self c.args.strand from took c.code-known.ensures.known c.requires.rest c.requires.first c.in-Acted.ensures

pub returns-in-Over-clause-took : goal.returns-in-Over-clause-took
returns-in-Over-clause-took c =
    λ first from took. took_ended first c.args.world.now c.turn.new.self c.args.strand c.in-Over.field-0 from took c.code-known.ensures.known c.requires.rest c.requires.first c.in-Over.ensures

pub returns-in-Over-clause-acted : goal.returns-in-Over-clause-acted
returns-in-Over-clause-acted c = over_ended c.args.world.now c.turn.new.self c.args.strand c.in-Over.field-0 c.in-Over.ensures

pub returns-in-Acted-clause-rest : goal.returns-in-Acted-clause-rest
returns-in-Acted-clause-rest c = acts_rests c.args.world.now c.turn.new.self c.args.strand c.in-Acted.ensures c.requires.rest

pub returns-in-Over-clause-rest : goal.returns-in-Over-clause-rest
returns-in-Over-clause-rest c = over_rests c.args.world.now c.turn.new.self c.args.strand c.in-Over.field-0 c.in-Over.ensures c.requires.rest
