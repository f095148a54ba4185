use Rattle.std.proofs.Common.{sym}
use Rattle.a68_store.proofs.Rows.{never-waits}
use Rattle.a68_store.proofs.store.Store.waits.Goals as goal

pub returns-in_default : goal.returns-in_default
returns-in_default c = sym (never-waits c.args.want.now c.args.self.now c.in_default.not-Down)
