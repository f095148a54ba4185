use Rattle.std.proofs.Common.{◌≡◌, ◌∙◌, sym, rules}
use Rattle.std.specs.Prelude.{pos, int_lt}
use Rattle.std.proofs.lemmas.Int.{to_z-of_z}
use mir.Syntax.{w64}
use mir.Val.{of_z, to_z}
use Rattle.a68_store.proofs.Rows.{down-waiting}
use Rattle.a68_store.proofs.store.Store.down_waits.Goals as goal

pub returns-in-Some : goal.returns-in-Some
returns-in-Some c =
    let same : to_z w64 (of_z w64 c.in-Some.count) ≡ c.in-Some.count = to_z-of_z w64 c.in-Some.count (search rules) in
    let tested : c.halts.result ≡ int_lt c.in-Some.count (pos 1) = rw same at c.halts.ensures in
    tested ∙ sym (down-waiting c.args.self.now c.args.cell c.in-Some.count c.in-Some.ensures)
