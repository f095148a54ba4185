use Rattle.a68_definitions.proofs.Alone.{one_run, tags_one}
use Rattle.std.proofs.Common.{refl}
use Rattle.a68_definitions.proofs.laws.definitions_are_one.Goals as goal

pub returns-clause-tags : goal.returns-clause-tags
returns-clause-tags c = λ tree once tags others p q. tags_one tree once tags others p q

pub returns-clause-modes : goal.returns-clause-modes
returns-clause-modes c = λ tree of start nodes others table listed sound below few less p q. one_run tree of start sound below p q refl few less
