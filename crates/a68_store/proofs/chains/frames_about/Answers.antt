use Rattle.std.proofs.Common.{[], arith}
use Rattle.a68_store.specs.Frames.{frame_of}
use Rattle.a68_store.proofs.chains.frames_about.Goals as goal

pub loop-at-preserved : goal.loop-at-preserved
loop-at-preserved c =
    let out = c.requires.linked c.loop-at.at (frame_of [] c.frame_at-at.result) c.frame_at-at.ensures (omega (arith, c.loop-at-test.true)) in
    record { there = omega (arith, out, c.loop-at.invariant.there); few = omega (arith, out, c.loop-at.invariant.few) }

pub loop-at-smaller : goal.loop-at-smaller
loop-at-smaller c = c.requires.linked c.loop-at.at (frame_of [] c.frame_at-at.result) c.frame_at-at.ensures (omega (arith, c.loop-at-test.true))
