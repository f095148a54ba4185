use Rattle.std.proofs.Common.{arith}
use Rattle.a68_rests.proofs.Waits.{first_in, none_in}
use Rattle.a68_rests.proofs.waiters.first_at.Goals as goal

pub returns-in-Some : goal.returns-in-Some
returns-in-Some c =
    let f = first_in c.args.set.now c.args.cell c.args.from c.args.to c.range.result (c.range.ensures.in_range tt) c.in-Some.first.now _ c.in-Some.ensures.steps in record {
      from_on = f.0;
      within = omega (arith, f.1);
      none = f.2;
    }

pub returns-in-None : goal.returns-in-None
returns-in-None c = record {
  from_on = c.requires.order;
  within = omega arith;
  none = none_in c.args.set.now c.args.cell c.args.from c.args.to c.range.result (c.range.ensures.in_range tt) c.in-None.ensures.steps.0;
}
