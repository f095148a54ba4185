use Rattle.a68_races.proofs.One.{none_or_one, one_answer, one_beyond, one_within}
use Rattle.a68_races.proofs.laws.races_are_one.Goals as goal

pub returns : goal.returns
returns c = record { shown = one_answer; beyond = one_beyond; apart = none_or_one; within = one_within }
