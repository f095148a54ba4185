use Rattle.a68_machine_tests.proofs.Resting.{backs_rest}
use Rattle.a68_machine_tests.proofs.leases.give.Goals as goal

pub returns : goal.returns
returns c = λ out. backs_rest c.args.world.now c.back.new.self c.args.strand _ c.requires.lent c.back.ensures out
