use Rattle.a68_base.specs.declared.limits.TheConstants.{MOST_FUEL}
use Rattle.a68_replay.proofs.Picking.{begins_own}
use Rattle.a68_replay.proofs.turning.replay.Goals as goal

pub follow-requires-clause-begins : goal.follow-requires-clause-begins
follow-requires-clause-begins c = begins_own c.args.code MOST_FUEL c.in_ok-world.world c.in_ok-world.ensures
