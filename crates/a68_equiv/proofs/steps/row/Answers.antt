use Rattle.std.proofs.Common.{rules, tests}
use Rattle.a68_equiv.proofs.steps.row.Goals as goal

pub returns-then-taken : goal.returns-then-taken
returns-then-taken c = search (tests, rules)

pub returns-else-taken : goal.returns-else-taken
returns-else-taken c = search (tests, rules)
