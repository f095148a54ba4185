use Rattle.std.proofs.Common.{rules}
use Rattle.a68_workers.proofs.Going.{goes_through}
use Rattle.a68_workers.proofs.alone.turn_rest.Goals as goal

-- the strand is the first behind that of the last entry
pub turn_first-requires : goal.turn_first-requires
turn_first-requires g c = search rules

pub loop-strand-preserved : goal.loop-strand-preserved
loop-strand-preserved g c =
    let first = c.args.world.now in
    let inv = c.loop-strand.invariant in
    let goes = goes_through first c.loop-strand.world c.turn_first.new.world inv.goes c.turn_first.ensures.goes_on in
    let took = c.in_ok-acted.ensures.took first inv.goes inv.took in
    record {
      goes = goes_through first c.turn_first.new.world c.go_alone.new.world goes c.go_alone.ensures.goes_on;
      took = c.in_ok-go_alone.ensures.took first goes took;
      rest = c.in_ok-go_alone.ensures.rest;
    }
