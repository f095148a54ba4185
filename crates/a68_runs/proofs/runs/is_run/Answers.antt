use Rattle.std.proofs.Common.{arith}
use Rattle.a68_parts.proofs.Selecting.{place_is, places_long}
use Rattle.a68_runs.proofs.runs.is_run.Goals as goal

pub bounds-places-id : goal.bounds-places-id
bounds-places-id c = omega (arith, places_long c.args.program.now c.args.places.now c.requires.places, c.requires.there)

pub left_by-requires-clause-place : goal.left_by-requires-clause-place
left_by-requires-clause-place c = place_is c.args.program.now c.args.places.now c.args.id c.node-node.result.now c.requires.places c.node-node.ensures.is
