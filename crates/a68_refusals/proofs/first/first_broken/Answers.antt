use Rattle.a68_refusals.proofs.first.first_broken.Goals as goal

pub first_among-requires-clause-fields : goal.first_among-requires-clause-fields
first_among-requires-clause-fields c = rw (← c.modes.ensures.is) c.in_ok-fields.ensures
