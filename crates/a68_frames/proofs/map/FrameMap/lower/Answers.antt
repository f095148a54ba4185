use Rattle.a68_frames.proofs.Needing.{lowered_use, lowered_unused}
use Rattle.a68_frames.proofs.map.FrameMap.lower.Goals as goal

pub returns-in_default : goal.returns-in_default
returns-in_default c = λ tree are.
    lowered_unused tree _ c.args.at c.args.definition (rw (← c.self.view_is) at are) (rw (← c.self.view_is) at c.requires) c.find.result c.args.needs.now c.in_default.is (rw c.about-start.ensures.is at c.find.ensures)

pub returns : goal.returns
returns c = λ tree are.
    lowered_use tree _ c.args.at c.args.definition (rw (← c.self.view_is) at are) (rw (← c.self.view_is) at c.requires) c.in-Some.step c.args.needs.now c.lower.new.needs (rw c.about-start.ensures.is at c.in-Some.ensures) (rw c.about-start.ensures.is at c.lower.ensures)
