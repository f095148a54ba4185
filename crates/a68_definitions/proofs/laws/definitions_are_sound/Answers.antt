use Rattle.a68_definitions.proofs.Alone.{good}
use Rattle.a68_definitions.proofs.laws.definitions_are_sound.Goals as goal

pub returns-clause-sound : goal.returns-clause-sound
returns-clause-sound c = λ tree of start nodes table sound below few p. (good tree of start sound below p few).sound

pub returns-clause-of : goal.returns-clause-of
returns-clause-of c = λ tree of start nodes table sound below few p. (good tree of start sound below p few).of_below

pub returns-clause-table : goal.returns-clause-table
returns-clause-table c = λ tree of start nodes table sound below few p. (good tree of start sound below p few).below
