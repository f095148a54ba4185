use Rattle.std.proofs.Common.{arith, refl, subst, below_more}
use Rattle.a68_equiv.specs.Dimensions.{HasDimensions}
use Rattle.a68_equiv.proofs.Dimensions.{all_there}
use Rattle.a68_equiv.proofs.formed.all_have_dimensions.Goals as goal

pub loop-id-preserved : goal.loop-id-preserved
loop-id-preserved c = below_more _ _ c.loop-id.invariant (subst HasDimensions c.shape.ensures.shape (c.has_dimensions.ensures.0 c.if-not-has_dimensions.false))

pub returns : goal.returns
returns c = (λ t. all_there c.args.modes.now (λ m h. c.loop-id.invariant m (omega arith)), λ have. refl)
