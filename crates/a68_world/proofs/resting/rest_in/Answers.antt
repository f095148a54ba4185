use Rattle.a68_world.proofs.resting.rest_in.Goals as goal

pub loop-k-preserved : goal.loop-k-preserved
loop-k-preserved c = (
  c.first_other-k-in-loop-k.ensures.within,
  λ code strands seated have. c.rest_at.ensures code strands seated (c.loop-k.invariant.1 code strands seated have),
)
