use Rattle.std.proofs.Common.{sym}
use Rattle.a68_store.proofs.Rows.{down-calm}
use Rattle.a68_store.proofs.store.Store.fault_of_down.Goals as goal

pub returns-in-Some : goal.returns-in-Some
returns-in-Some c = sym (down-calm c.args.self.now c.args.cell c.in-Some.field-0 c.in-Some.ensures)
