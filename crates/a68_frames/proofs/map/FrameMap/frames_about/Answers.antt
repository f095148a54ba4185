use Rattle.a68_frames.proofs.Counting.{frames_are}
use Rattle.a68_frames.proofs.map.FrameMap.frames_about.Goals as goal

pub returns : goal.returns
returns c = λ tree are ranges lies.
    frames_are tree _ c.args.at c.count.result ranges (rw (← c.self.view_is) at are) (rw (← c.self.view_is) at c.requires) lies (λ rs f. c.count.ensures tree rs (rw c.about.ensures.is f))
