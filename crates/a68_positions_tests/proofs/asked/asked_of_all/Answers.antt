use Rattle.a68_definitions.proofs.Alone.{defined_longer}
use Rattle.a68_positions.proofs.Longer.{there_longer}
use Rattle.a68_positions_tests.proofs.asked.asked_of_all.Goals as goal

pub find_yields-requires-clause-of : goal.find_yields-requires-clause-of
find_yields-requires-clause-of g c =
    there_longer _ _ _ _ (defined_longer c.args.tree.now c.declared-modes.result.1 c.declared-modes.result.0 (rw c.expect-defined.ensures at c.defined_modes.ensures.defined)).long c.declared-modes.ensures.there
