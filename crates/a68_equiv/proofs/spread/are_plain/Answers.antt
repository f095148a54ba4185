use Rattle.std.proofs.lemmas.Bool.{false≢true}
use Rattle.std.proofs.Common.{◌∙◌, sym, ap, below_more}
use Rattle.a68_equiv.specs.Unfolding.{leads_within}
use Rattle.a68_equiv.proofs.spread.are_plain.Goals as goal

pub returns-then-leads_on : goal.returns-then-leads_on
returns-then-leads_on c = λ t. absurd (false≢true t)

pub loop-member-preserved : goal.loop-member-preserved
loop-member-preserved c = below_more _ _ c.loop-member.invariant (ap leads_within (sym c.shape.ensures.shape) ∙ sym c.leads_on.ensures ∙ c.if-leads_on.false)
