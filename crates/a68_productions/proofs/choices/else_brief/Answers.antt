use Rattle.std.proofs.Common.{rules}
use Rattle.a68_productions.proofs.choices.else_brief.Goals as goal

pub returns-then-starts : goal.returns-then-starts
returns-then-starts c = search rules
