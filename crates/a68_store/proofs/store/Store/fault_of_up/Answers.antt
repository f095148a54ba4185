use Rattle.std.proofs.Common.{ap, sym, arith}
use Rattle.std.specs.Prelude.{pos, ◌+ℤ◌}
use Rattle.std.proofs.lemmas.Int.{ints}
use Rattle.a68_acts.specs.Does.{refused}
use Rattle.a68_layout.proofs.Integers.{is_int-inside}
use Rattle.a68_store.proofs.Rows.{up-did}
use Rattle.a68_store.proofs.store.Store.fault_of_up.Goals as goal

pub returns : goal.returns
returns c =
    let z = c.in-Some.count +ℤ pos 1 in
    sym (ap refused (up-did c.args.self.now c.args.cell c.in-Some.count c.in-Some.ensures (is_int-inside z (omega (arith, ints)) (omega (arith, ints)))))
