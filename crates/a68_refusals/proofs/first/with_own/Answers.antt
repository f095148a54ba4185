use Rattle.std.proofs.Common.{sym}
use Rattle.a68_refusals.proofs.Preceding.{earlier_none}
use Rattle.a68_refusals.proofs.first.with_own.Goals as goal

pub returns-in_default : goal.returns-in_default
returns-in_default c = rw c.in_default.is (sym (earlier_none c.args.first))
