use Rattle.std.proofs.Common.{rules}
use Rattle.a68_productions.proofs.clauses.enclosed.Goals as goal

pub returns-then-starts-4 : goal.returns-then-starts-4
returns-then-starts-4 c = search rules
