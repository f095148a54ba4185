use Rattle.std.proofs.Common.{rules}
use Rattle.a68_symbols.proofs.spelling.is_priority.Goals as goal

pub returns : goal.returns
returns c = search rules
