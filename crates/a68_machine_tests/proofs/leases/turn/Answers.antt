use Rattle.a68_machine_tests.proofs.Held.{turn_held}
use Rattle.a68_machine_tests.proofs.leases.turn.Goals as goal

pub returns : goal.returns
returns c = turn_held c.args.world.now c.turn-turned.new.self c.args.number c.turn-turned.result c.args.strand.now c.code-known.ensures.known c.turn-turned.ensures c.requires
