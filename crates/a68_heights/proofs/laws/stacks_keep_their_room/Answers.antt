use Rattle.a68_heights.proofs.Plainly.{settles_plainly}
use Rattle.a68_heights.proofs.Rooming as rooming
use Rattle.a68_heights.proofs.laws.stacks_keep_their_room.Goals as goal

pub returns : goal.returns
returns c = record {
  holds = rooming.holds;
  begins = rooming.begins;
  steps = rooming.steps;
  settles = rooming.settles;
  told = rooming.told;
  entered = rooming.replied;
  plainly = settles_plainly;
}
