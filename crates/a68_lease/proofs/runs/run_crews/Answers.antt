use Rattle.a68_lease.proofs.LentStrands.{none_rest, rest_none}
use Rattle.a68_workers.proofs.Going.{goes_through}
use Rattle.a68_lease.proofs.runs.run_crews.Goals as goal

pub run_carried-requires-clause-rest : goal.run_carried-requires-clause-rest
run_carried-requires-clause-rest g c κs within = rest_none c.in_ok-begun.begun.status c.in_ok-begun.ensures.rest

pub loop-crews-preserved : goal.loop-crews-preserved
loop-crews-preserved g c =
    let first = c.args.world in
    let old = c.loop-crews.now in
    let begun = c.in_ok-begun.begun in
    let now = c.in_ok-now.now in record {
      goes = goes_through first begun now (goes_through first old begun c.loop-crews.invariant.goes c.in_ok-begun.ensures.goes_on) c.in_ok-now.ensures.goes;
      rest = none_rest now.status c.in_ok-now.ensures.rest;
    }
