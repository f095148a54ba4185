use Rattle.std.proofs.Common.{rules}
use Rattle.a68_workers.proofs.Going.{goes_through}
use Rattle.a68_workers.proofs.alone.turn_while_alone.Goals as goal

pub turn_first-requires : goal.turn_first-requires
turn_first-requires g c = search rules

pub alone-preserved : goal.alone-preserved
alone-preserved g c =
    let first = c.args.world.now in
    let inv = c.alone.invariant in
    let goes = goes_through first c.alone.world c.turn_first.new.world inv.goes c.turn_first.ensures.goes_on in
    record {
      goes = goes_through first c.turn_first.new.world c.go_alone.new.world goes c.go_alone.ensures.goes_on;
      rest = c.in_ok-go_alone.ensures.rest;
    }
