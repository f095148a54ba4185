use Rattle.std.proofs.Common.{◌<◌, ◌∙◌, sym, length, refl, inl, inr, arith, below_more, ⊎_elim}
use Rattle.a68_equiv.specs.Related.{AreMeeklyRelated}
use Rattle.a68_equiv.proofs.Meekly.{none_in}
use Rattle.std.proofs.lemmas.Bool.{false≢true}
use Rattle.std.proofs.lemmas.List.Elements.{Contains-get_or}
use Rattle.a68_equiv.proofs.firm.one_linked.Goals as goal

pub loop-other-preserved : goal.loop-other-preserved
loop-other-preserved c = below_more _ _ c.loop-other.invariant
    (⊎_elim (λ w. false≢true (sym c.if-leads.false ∙ c.leads.ensures.1 w)) (λ w. false≢true (sym c.if-leads-2.false ∙ c.leads-in-loop-other.ensures.1 w)))

pub returns : goal.returns
returns c = (λ t. absurd (false≢true t), λ w. absurd (none_in (λ y. AreMeeklyRelated c.args.modes.now c.args.one y) c.args.others.now (λ k h. c.loop-other.invariant k (omega arith)) w.0 w.1 w.2))

pub returns-then-leads : goal.returns-then-leads
returns-then-leads c =
    let lt : c.loop-other.other-index < length c.args.others.now = omega arith in
    (λ _. (_, Contains-get_or c.args.others.now c.loop-other.other-index 0 lt, inl (c.leads.ensures.0 c.if-leads.true)), λ _. refl)

pub returns-then-leads-2 : goal.returns-then-leads-2
returns-then-leads-2 c =
    let lt : c.loop-other.other-index < length c.args.others.now = omega arith in
    (λ _. (_, Contains-get_or c.args.others.now c.loop-other.other-index 0 lt, inr (c.leads-in-loop-other.ensures.0 c.if-leads-2.true)), λ _. refl)
