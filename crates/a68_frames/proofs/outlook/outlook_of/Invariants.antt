use Rattle.std.proofs.Common.{◌≤◌, ◌-◌, length}
use Rattle.a68_frames.specs.Outlooks.{AreFirstViews}
use Rattle.a68_frames.proofs.outlook.outlook_of.Given as goal

abbrev pub invariant-frames : goal.invariant-frames
invariant-frames l = record {
  within : length l.views.items ≤ length l.chains.frames;
  are : AreFirstViews l.tree l.chains.frames l.texts.items l.maps l.views.items (length l.views.items);
}

abbrev pub decreases-frames : goal.decreases-frames
decreases-frames l = length l.chains.frames - length l.views.items
