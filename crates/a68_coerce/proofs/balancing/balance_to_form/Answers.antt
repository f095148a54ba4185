use Rattle.std.proofs.Common.{below_more, arith}
use Rattle.std.proofs.lemmas.Option.{slice_get_within}
use Rattle.a68_coerce.proofs.balancing.balance_to_form.Goals as goal

pub loop-i-preserved : goal.loop-i-preserved
loop-i-preserved c = below_more _ _ c.loop-i.invariant (rw c.in_default.is at c.in_ok-mode.ensures.at)

pub returns-clause-formed : goal.returns-clause-formed
returns-clause-formed c = λ k to at. let within = slice_get_within c.args.leaves.now k at.leaf at.there in c.loop-i.invariant k (omega arith) to at

pub returns-in-Some-clause-formed : goal.returns-in-Some-clause-formed
returns-in-Some-clause-formed c = (rw c.in-Some.is at c.in_ok-mode.ensures.at, λ k to lt at. c.loop-i.invariant k lt to at)
