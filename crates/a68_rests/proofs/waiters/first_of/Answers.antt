use Rattle.a68_rests.proofs.Waits.{none_held, one_held}
use Rattle.a68_rests.proofs.waiters.first_of.Goals as goal

pub returns-in_err-first-clause-none : goal.returns-in_err-first-clause-none
returns-in_err-first-clause-none c = λ none. none_held c.args.set.now c.args.cell c.range.result (c.range.ensures.in_range tt) c.in_err-first.ensures.steps.0

pub returns-clause-some : goal.returns-clause-some
returns-clause-some c = one_held c.args.set.now c.args.cell c.range.result _ c.in_ok-first.first.now (c.range.ensures.in_range tt) c.in_ok-first.ensures.steps
