use Rattle.std.proofs.Common.{rules}
use Rattle.a68_symbols.proofs.marks.is_pair.Goals as goal

pub returns-then-a-eq58 : goal.returns-then-a-eq58
returns-then-a-eq58 c = search rules
