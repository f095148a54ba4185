use Rattle.std.proofs.Common.{◌++◌}
use Rattle.a68_frames.proofs.Counting.{hops_are}
use Rattle.a68_frames.proofs.map.FrameMap.hops.Goals as goal

pub returns : goal.returns
returns c = λ tree are inner outer lies stands.
    hops_are tree inner outer c.frames_about.result c.frames_about-outer.result c.saturating_sub.result (c.frames_about.ensures tree are (inner ++ outer) lies) (c.frames_about-outer.ensures tree are outer stands) c.saturating_sub.ensures
