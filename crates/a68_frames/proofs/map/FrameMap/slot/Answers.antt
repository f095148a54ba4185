use Rattle.a68_frames.proofs.Finding.{placed}
use Rattle.a68_frames.proofs.map.FrameMap.slot.Goals as goal

pub returns : goal.returns
returns c = λ tree are. rw c.slot_at.ensures (placed tree _ _ _ (rw (← c.self.view_is) at are).slots c.args.range c.args.definition)
