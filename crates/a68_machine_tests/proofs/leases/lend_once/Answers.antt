use Rattle.a68_machine_tests.proofs.leases.lend_once.Goals as goal

pub returns : goal.returns
returns g c = c.give.ensures (c.acts-strand.ensures.alone (c.lent-strand.ensures.alone c.requires))
