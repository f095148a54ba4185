use Rattle.std.proofs.Common.{below_more, arith}
use Rattle.std.proofs.lemmas.Option.{slice_get_within}
use Rattle.a68_coerce.proofs.balancing.balance_sides.Goals as goal

pub loop-i-preserved : goal.loop-i-preserved
loop-i-preserved c = below_more _ _ c.loop-i.invariant (rw c.in_default.is at c.in_ok-mode.ensures.at)

pub returns-clause-sided : goal.returns-clause-sided
returns-clause-sided c = λ k to at. let within = slice_get_within c.args.soft.now k at.0.leaf at.0.there in c.loop-i.invariant k (omega arith) to at

pub returns-in-Some-clause-sided : goal.returns-in-Some-clause-sided
returns-in-Some-clause-sided c = (rw c.in-Some.is at c.in_ok-mode.ensures.at, λ k to lt at. c.loop-i.invariant k lt to at)
