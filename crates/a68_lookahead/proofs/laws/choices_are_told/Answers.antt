use Rattle.a68_lookahead.proofs.Told.{choices_seen, unit_unspecced}
use Rattle.a68_lookahead.proofs.laws.choices_are_told.Goals as goal

pub returns-clause-seen : goal.returns-clause-seen
returns-clause-seen c = λ f r i. choices_seen i r

pub returns-clause-unseen : goal.returns-clause-unseen
returns-clause-unseen c = λ k u r i. unit_unspecced i r
