use Rattle.std.proofs.Common.{◌≡◌, ◌∙◌, false, ap, sym, refl, arith, rules}
use Rattle.std.specs.Prelude.{pos, ◌-ℤ◌, int_lt}
use Rattle.std.proofs.lemmas.Int.{ints, to_z-of_z}
use mir.Syntax.{w64}
use mir.Val.{of_z, to_z}
use Rattle.a68_acts.specs.Does.{did, with_count}
use Rattle.a68_acts.specs.Store.{Store}
use Rattle.a68_acts.specs.declared.want.Reply.TheVariants as reply
use Rattle.a68_values.specs.declared.act.Act.TheVariants as act
use Rattle.a68_store.proofs.Rows.{count-there, down-did, down-waits}
use Rattle.a68_store.proofs.store.Store.down.Goals as goal

pub returns-then-halts-clause-act : goal.returns-then-halts-clause-act
returns-then-halts-clause-act c =
    let same : to_z w64 (of_z w64 c.in-Some.count) ≡ c.in-Some.count = to_z-of_z w64 c.in-Some.count (search rules) in
    let tested : c.halts.result ≡ int_lt c.in-Some.count (pos 1) = rw same at c.halts.ensures in
    (down-waits c.args.self.now c.args.cell c.in-Some.count c.in-Some.ensures (sym tested ∙ c.if-halts.true), refl)

pub set_count-requires : goal.set_count-requires
set_count-requires c = count-there c.args.self.now c.args.cell c.in-Some.count c.in-Some.ensures

pub returns-clause-act : goal.returns-clause-act
returns-clause-act c =
    let same : to_z w64 (of_z w64 c.in-Some.count) ≡ c.in-Some.count = to_z-of_z w64 c.in-Some.count (search rules) in
    let tested : c.halts.result ≡ int_lt c.in-Some.count (pos 1) = rw same at c.halts.ensures in
    let enough : int_lt c.in-Some.count (pos 1) ≡ false = sym tested ∙ c.if-halts.false in
    let z = c.in-Some.count -ℤ pos 1 in
    let counted : c.set_count.new.self ≡ with_count c.args.self.now c.args.cell z = c.set_count.ensures ∙ ap (λ i. with_count c.args.self.now c.args.cell i) (omega (arith, ints)) in
    down-did c.args.self.now c.args.cell c.in-Some.count c.in-Some.ensures enough
    ∙ ap (λ (s : Store). did (act.Down c.args.cell) reply.Go s) (sym counted)
