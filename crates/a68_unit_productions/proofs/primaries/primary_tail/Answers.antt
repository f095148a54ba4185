use Rattle.std.proofs.Common.{rules}
use Rattle.a68_unit_productions.proofs.primaries.primary_tail.Goals as goal

pub returns-then-starts : goal.returns-then-starts
returns-then-starts c = search rules
