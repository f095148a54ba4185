use Rattle.a68_frames.specs.Tables.{AreNeedsBefore}
use Rattle.a68_frames.proofs.needs.lower_tags.Given as goal

abbrev pub invariant-loop-at : goal.invariant-loop-at
invariant-loop-at l = AreNeedsBefore l.tree l.at l.needs
