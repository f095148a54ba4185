use Rattle.std.proofs.Common.{rules}
use Rattle.a68_equiv.proofs.codes.code.Goals as goal

pub returns-in-Rows : goal.returns-in-Rows
returns-in-Rows c = search rules
