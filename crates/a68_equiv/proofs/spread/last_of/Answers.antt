use Rattle.std.proofs.Common.{◌≡◌, ◌<◌, ◌∙◌, ℕ, List, length, take, sym, ap, arith, subst}
use Rattle.std.proofs.lemmas.List.{take_more}
use Rattle.std.proofs.Math.Seq.{take-length}
use Rattle.a68_equiv.specs.Spread.{AreLast}
use Rattle.a68_equiv.proofs.Spreading.{spread_on, spread_more}
use Rattle.a68_equiv.proofs.spread.last_of.Goals as goal

pub loop-mode-preserved-then-leads_on : goal.loop-mode-preserved-then-leads_on
loop-mode-preserved-then-leads_on c =
    let lt : c.loop-mode.mode-index < length c.args.found.now = omega arith in
    rw (take_more c.args.found.now c.loop-mode.mode-index 0 lt) (spread_on _ _ _ _ c.loop-mode.invariant (rw (← c.shape.ensures.shape) (sym c.leads_on.ensures ∙ c.if-leads_on.true)))

pub loop-mode-preserved : goal.loop-mode-preserved
loop-mode-preserved c =
    let lt : c.loop-mode.mode-index < length c.args.found.now = omega arith in
    rw (take_more c.args.found.now c.loop-mode.mode-index 0 lt, c.in_ok-push.ensures.items) (spread_more _ _ _ _ c.loop-mode.invariant (rw (← c.shape.ensures.shape) (sym c.leads_on.ensures ∙ c.if-leads_on.false)))

pub returns : goal.returns
returns c =
    let found = c.args.found.now in
    let all : c.loop-mode.mode-index ≡ length found = omega arith in
    subst (λ (xs : List ℕ). AreLast c.args.modes.now xs c.loop-mode.items.items) (ap (λ (n : ℕ). take n found) all ∙ take-length found) c.loop-mode.invariant
