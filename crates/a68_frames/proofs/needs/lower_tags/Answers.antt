use Rattle.a68_frames.proofs.Needing.{needs_more}
use Rattle.a68_frames.proofs.needs.lower_tags.Goals as goal

pub loop-at-preserved : goal.loop-at-preserved
loop-at-preserved c = needs_more c.args.tree.now c.loop-at.at c.loop-at.needs c.lower_tag.new.needs c.loop-at.invariant c.lower_tag.ensures
