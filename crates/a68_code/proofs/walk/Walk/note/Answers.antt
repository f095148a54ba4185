use Rattle.std.proofs.Common.{rules}
use Rattle.a68_code.proofs.walk.Walk.note.Goals as goal

pub returns-then-to-len : goal.returns-then-to-len
returns-then-to-len c = search rules
