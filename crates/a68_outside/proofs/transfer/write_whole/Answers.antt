use Rattle.std.proofs.Common.{arith, ◌∙◌}
use Rattle.a68_outside.proofs.Pieces.{received_more}
use Rattle.a68_outside.proofs.transfer.write_whole.Goals as goal

pub loop-done-preserved : goal.loop-done-preserved
loop-done-preserved g c = record {
  within = omega (arith, c.in_ok-done.ensures.fits);
  received = received_more _ _ _ _ _ _ c.loop-done.invariant.received c.in_ok-done.ensures.bytes;
  faults = c.in_ok-done.ensures.cause.ok ∙ c.loop-done.invariant.faults;
}
