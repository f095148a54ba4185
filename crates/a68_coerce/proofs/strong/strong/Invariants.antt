use Rattle.a68_coerce.specs.Below.{depth}
use Rattle.a68_coerce.specs.declared.goal.CoercionGoal.TheVariants as form
use Rattle.a68_coerce.proofs.Rows.{IsUp}
use Rattle.a68_coerce.proofs.strong.strong.Given as goal

abbrev pub invariant-rowing : goal.invariant-rowing
invariant-rowing l = IsUp l.modes l.from (form.Mode l.fn.to) l.goal l.rows

abbrev pub decreases-rowing : goal.decreases-rowing
decreases-rowing l = depth l.modes l.goal
