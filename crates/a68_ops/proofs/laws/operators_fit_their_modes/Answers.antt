use Rattle.a68_ops.proofs.Fit.{operators_fit}
use Rattle.a68_ops.proofs.laws.operators_fit_their_modes.Goals as goal

pub returns : goal.returns
returns c = operators_fit
