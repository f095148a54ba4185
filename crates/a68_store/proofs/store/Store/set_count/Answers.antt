use Rattle.std.proofs.lemmas.Int.{to_z-of_z}
use mir.Syntax.{w64}
use Rattle.a68_store.proofs.Rows.{given-count}
use Rattle.a68_store.proofs.store.Store.set_count.Goals as goal

pub returns : goal.returns
returns c = given-count c.args.self.now c.assign.new.self c.args.cell c.args.count (rw (to_z-of_z w64 c.args.count c.ranges.count) at c.assign.ensures)
