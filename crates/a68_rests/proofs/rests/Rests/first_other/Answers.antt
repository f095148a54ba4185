use Rattle.std.proofs.Common.{subst, arith}
use Rattle.a68_rests.proofs.Passing.{passed, shut_more}
use Rattle.a68_rests.specs.Resting.{Passes, Resting}
use Rattle.a68_rests.proofs.rests.Rests.first_other.Goals as goal

pub loop-i-preserved : goal.loop-i-preserved
loop-i-preserved c = record {
  from_on = c.first_at-n.ensures.from_on;
  within = omega (arith, c.first_at-n.ensures.within, c.loop-i.invariant.within);
  listed = λ k low high. c.loop-i.invariant.listed k low (omega (arith, high, c.first_at-n.ensures.within));
  shut = shut_more c.self.inside.held c.self.inside.opened.items c.loop-i.i c.args.from c.loop-i.n c.first_at-n.result c.index.result.now (omega (arith, c.loop-i-test.true, c.len-i-end.ensures)) c.index.ensures
      c.first_at-n.ensures.within c.loop-i.invariant.shut c.first_at-n.ensures.none;
}

pub returns : goal.returns
returns c =
    let ends = c.len-i-end.ensures in
    subst (λ (r : Resting). Passes r c.args.from c.args.to c.loop-i.n) c.self.view_is (record {
      from_on = c.loop-i.invariant.from_on;
      within = c.loop-i.invariant.within;
      passed = passed c.self.inside.listed c.self.inside.held c.self.inside.opened.items c.args.from c.loop-i.n c.loop-i.invariant.listed
          (λ j k in_ low high. c.loop-i.invariant.shut j k (omega (arith, in_, ends, c.loop-i-test.false)) low high);
    })
