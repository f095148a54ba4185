use Rattle.std.proofs.Common.{rules}
use Rattle.a68_modes.proofs.standard.standard_shape.Goals as goal

pub returns : goal.returns
returns c = search rules
