use Rattle.std.proofs.Common.{refl}
use Rattle.a68_unit_productions.proofs.declarers.bounds.Goals as goal

pub returns : goal.returns
returns c = refl
