use Rattle.a68_machine_tests.proofs.Held.{lent_is_held}
use Rattle.a68_machine_tests.proofs.Resting.{lends_one}
use Rattle.a68_machine_tests.proofs.leases.lent.Goals as goal

pub returns : goal.returns
returns g c = record {
  held = lent_is_held c.args.world.now c.lend.new.self c.args.number c.lend.result c.expect.result c.expect.ensures c.lend.ensures;
  alone = lends_one c.args.world.now c.lend.new.self c.args.number c.lend.result c.expect.result c.expect.ensures c.lend.ensures;
}
