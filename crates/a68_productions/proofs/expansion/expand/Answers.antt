use Rattle.std.proofs.Common.{rules}
use Rattle.a68_productions.proofs.expansion.expand.Goals as goal

pub returns : goal.returns
returns c = search rules
