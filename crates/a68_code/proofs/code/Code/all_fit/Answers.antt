use Rattle.std.proofs.Common.{◌≤◌, length, ap, arith, below_more, refl}
use Rattle.std.proofs.lemmas.Bool.{both_ways, false≢true}
use Rattle.a68_code.proofs.Reading.{does_at_within}
use Rattle.a68_code.proofs.code.Code.all_fit.Goals as goal

pub returns-then-not-fits : goal.returns-then-not-fits
returns-then-not-fits c = (λ e. absurd (false≢true e), λ all. absurd (both_ways c.fits.result c.if-not-fits.true (c.fits.ensures.1 (all c.loop-at.at))))

pub loop-at-preserved : goal.loop-at-preserved
loop-at-preserved c = below_more _ _ c.loop-at.invariant (c.fits.ensures.0 c.if-not-fits.false)

pub returns : goal.returns
returns c =
    let list = ap (λ code. code.list) c.self.view_is in
    let past : length c.args.self.now.list ≤ c.loop-at.at = omega (arith, ap length list) in
    (λ e at does is. c.loop-at.invariant at (let inside = does_at_within c.args.self.now.list at does is in omega arith) does is, λ all. refl)
