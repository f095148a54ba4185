use Rattle.std.proofs.Common.{rules}
use Rattle.a68_symbols.proofs.marks.are_two.Goals as goal

pub returns-then-begins_operator : goal.returns-then-begins_operator
returns-then-begins_operator c = search rules
