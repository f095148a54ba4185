use Rattle.std.proofs.Common.{◌∙◌, sym}
use Rattle.std.proofs.lemmas.Bool.{false≢true}
use Rattle.a68_identify.proofs.Separating.{are_apart, no_both}
use Rattle.a68_identify.proofs.apart.are_apart.Goals as goal

pub returns : goal.returns
returns c apart =
    are_apart c.args.modes.now c.args.one c.args.other (sym c.is_union.ensures ∙ c.if-is_union.false) (sym c.is_union-2.ensures ∙ c.if-is_union-2.false)
    (λ w. false≢true (sym c.if-leads.false ∙ c.leads.ensures.1 w)) (λ w. no_both c.leads-2.result (c.leads-2.ensures.1 w) apart)
