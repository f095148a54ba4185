use Rattle.a68_frames.proofs.Finding.{first_way_is, way_is}
use Rattle.a68_frames.proofs.map.FrameMap.way.Goals as goal

pub returns-clause-stands : goal.returns-clause-stands
returns-clause-stands c = λ tree are.
    way_is tree _ c.args.at c.args.definition c.find.result (rw (← c.self.view_is) at are) (rw (← c.self.view_is) at c.requires) (rw c.about-start.ensures.is at c.find.ensures)

pub returns-clause-first : goal.returns-clause-first
returns-clause-first c = λ tree are.
    first_way_is tree _ c.args.at c.args.definition c.find.result (rw (← c.self.view_is) at are) (rw (← c.self.view_is) at c.requires) (rw c.about-start.ensures.is at c.find.ensures)
