use Rattle.std.proofs.Common.{◌∙◌, arith, sym}
use Rattle.a68_runs.proofs.Running.{last-outcome-is}
use Rattle.a68_runs.proofs.outcomes.last_outcome.Goals as goal

pub returns : goal.returns
returns c = c.outcome.ensures ∙ sym (last-outcome-is c.args.program.now c.args.ids.now (omega arith))
