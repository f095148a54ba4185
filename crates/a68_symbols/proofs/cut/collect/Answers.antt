use Rattle.std.proofs.Common.{arith, sym, ap}
use Rattle.std.proofs.lemmas.Bool.{eqb-true, eqb-false}
use Rattle.std.proofs.lemmas.List.{nil_from_length}
use Rattle.std.proofs.lemmas.Result.{err_from_is_err_and}
use Rattle.a68_base.specs.declared.refusal.Rule.TheVariants.{S2}
use Rattle.a68_symbols.specs.Gives.{gives}
use Rattle.a68_symbols.specs.Symbols.{front_none, front_is, stop_broken}
use Rattle.a68_symbols.proofs.Cutting.{refused_at, all_cut}
use Rattle.a68_symbols.proofs.Numbered.{all_named}
use Rattle.a68_symbols.proofs.Turns.{goes_on, ends_with}
use Rattle.a68_symbols.proofs.cut.collect.Goals as goal

pub returns-in_default : goal.returns-in_default
returns-in_default c =
    let cut = c.loop-rest.invariant.cut in
    let some = eqb-false _ 0 (sym c.loop-rest-test.ensures) in
    rw c.refused.ensures (refused_at _ S2 _ cut.short (cut.stops S2 _ (stop_broken (front_none (omega (arith, some)) c.in_default.ensures))))

pub returns-in_err-long : goal.returns-in_err-long
returns-in_err-long c =
    let l = c.in-Some.ensures in
    let p = err_from_is_err_and c.from_residual.result c.from_residual.ensures.1 in
    rw (p.1, p.2) (ends_with _ _ _ _ _ _ _ _ c.keep.new.found c.loop-rest.invariant l.within c.split_at.ensures.front c.split_at.ensures.back _ _
    (front_is l (ap (gives _ c.in-Some.form) (sym c.split_at.ensures.front))) c.in_err-long.ensures)

pub loop-rest-preserved : goal.loop-rest-preserved
loop-rest-preserved c =
    let l = c.in-Some.ensures in
    goes_on _ _ _ _ _ _ _ _ _ c.loop-rest.invariant l.within c.split_at.ensures.front c.split_at.ensures.back _ _
    (front_is l (ap (gives _ c.in-Some.form) (sym c.split_at.ensures.front))) c.in_ok-long.ensures

pub returns : goal.returns
returns c = (
  all_cut _ _ _ _ _ c.loop-rest.invariant.cut (nil_from_length _ (eqb-true _ 0 (sym c.loop-rest-test.ensures))),
  all_named _ _ c.loop-rest.invariant.named,
)
