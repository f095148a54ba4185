use Rattle.std.proofs.Common.{◌∙◌, sym, ap, arith, below_more}
use Rattle.std.proofs.lemmas.Bool.{false≢true}
use Rattle.a68_equiv.specs.Unfolding.{leads_within}
use Rattle.a68_identify.proofs.Missing.{bare_all}
use Rattle.a68_identify.proofs.apart.are_bare.Goals as goal

pub returns-then-leads_on : goal.returns-then-leads_on
returns-then-leads_on c = λ t. absurd (false≢true t)

pub loop-member-preserved : goal.loop-member-preserved
loop-member-preserved c = below_more _ _ c.loop-member.invariant (ap leads_within (sym c.shape.ensures.shape) ∙ sym c.leads_on.ensures ∙ c.if-leads_on.false)

pub returns : goal.returns
returns c = λ t. bare_all c.args.modes.now c.args.members.now (λ k h. c.loop-member.invariant k (omega arith))
