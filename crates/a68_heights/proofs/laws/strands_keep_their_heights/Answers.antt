use Rattle.a68_heights.proofs.Stepping.{next-fits, settle-fits}
use Rattle.a68_heights.proofs.Telling.{beginning-fits, replied-fits}
use Rattle.a68_heights.proofs.laws.strands_keep_their_heights.Goals as goal

pub returns : goal.returns
returns c = record { begins = beginning-fits; steps = next-fits; told = replied-fits; settles = settle-fits }
