use Rattle.std.proofs.Common.{refl}
use Rattle.a68_notes.proofs.Applying.{has_frames}
use Rattle.a68_notes.proofs.applied.distance_of.Goals as goal

pub returns-in-Some : goal.returns-in-Some
returns-in-Some c = λ tree are.
    rw c.in-Some.is (
      c.frames_about-here.result,
      c.frames_about-there.result,
      has_frames tree _ c.args.node c.frames_about-here.result are c.requires.there (c.frames_about-here.ensures tree are),
      has_frames tree _ c.in-Some.definition c.frames_about-there.result are (rw c.in-Some.is at c.requires.definition) (c.frames_about-there.ensures tree are),
      rw c.saturating_sub.ensures refl,
    )
