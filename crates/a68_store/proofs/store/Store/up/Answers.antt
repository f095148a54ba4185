use Rattle.std.proofs.Common.{◌≡◌, ◌∙◌, ap, sym, arith}
use Rattle.std.specs.Prelude.{pos, ◌+ℤ◌}
use Rattle.std.proofs.lemmas.Int.{ints}
use Rattle.a68_acts.specs.Does.{did, with_count}
use Rattle.a68_acts.specs.Store.{Store}
use Rattle.a68_acts.specs.declared.want.Reply.TheVariants as reply
use Rattle.a68_values.specs.declared.act.Act.TheVariants as act
use Rattle.a68_layout.proofs.Integers.{is_int-inside}
use Rattle.a68_store.proofs.Rows.{count-there, up-did}
use Rattle.a68_store.proofs.store.Store.up.Goals as goal

pub set_count-requires : goal.set_count-requires
set_count-requires c = count-there c.args.self.now c.args.cell c.in-Some.count c.in-Some.ensures

pub returns-clause-act : goal.returns-clause-act
returns-clause-act c =
    let z = c.in-Some.count +ℤ pos 1 in
    let counted : c.set_count.new.self ≡ with_count c.args.self.now c.args.cell z = c.set_count.ensures ∙ ap (λ i. with_count c.args.self.now c.args.cell i) (omega (arith, ints)) in
    up-did c.args.self.now c.args.cell c.in-Some.count c.in-Some.ensures (is_int-inside z (omega (arith, ints)) (omega (arith, ints)))
    ∙ ap (λ (s : Store). did (act.Up c.args.cell) reply.Go s) (sym counted)
