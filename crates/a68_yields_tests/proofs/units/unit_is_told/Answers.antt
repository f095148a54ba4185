use Rattle.a68_yields_tests.proofs.units.unit_is_told.Goals as goal

pub leaves_of-requires-clause-ahead : goal.leaves_of-requires-clause-ahead
leaves_of-requires-clause-ahead g c = rw c.deref.ensures.value c.looked-found.ensures.ahead
