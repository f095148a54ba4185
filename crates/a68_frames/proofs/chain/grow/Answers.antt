use Rattle.a68_frames.proofs.Chaining.{extends_more}
use Rattle.a68_frames.proofs.chain.grow.Goals as goal

pub layers-preserved : goal.layers-preserved
layers-preserved c =
    let frames = c.layers.growing.frames.items in
    let new = c.add_next.new.growing.frames.items in
    let next = c.in_ok-add_next.ensures in
    record {
      linked = next.linked;
      extends = extends_more _ frames new c.layers.invariant.extends next.extends;
      chained = λ tree made are. next.chained tree made (c.layers.invariant.chained tree made are);
    }
