use Rattle.std.proofs.Common.{ℕ, sym, subst}
use Rattle.a68_machine_tests.proofs.Held.{told_held}
use Rattle.a68_machine_tests.proofs.Resting.{OnlyOut, acts_one}
use Rattle.a68_machine_tests.proofs.leases.acts.Goals as goal

pub returns : goal.returns
returns g c = record {
  held = told_held c.args.world.now c.act.new.self c.args.strand c.told.new.self c.in-Ok.reply c.code.result.now c.told.result c.expect.result c.code.ensures.code c.expect.ensures c.code-known.ensures.known c.requires c.in-Ok.ensures
      c.told.ensures.ok c.told.ensures.number c.told.ensures.room;
  alone = λ out.
      subst (λ (n : ℕ). OnlyOut c.act.new.self n) (sym c.told.ensures.number)
      (acts_one c.args.world.now c.act.new.self c.args.strand.number c.in-Ok.ensures.0 out);
}
