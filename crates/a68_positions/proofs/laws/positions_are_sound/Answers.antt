use Rattle.a68_positions.proofs.Alone.{good}
use Rattle.a68_positions.proofs.laws.positions_are_sound.Goals as goal

pub returns-clause-sound : goal.returns-clause-sound
returns-clause-sound c = λ k ys fs start nodes ps sound of defined tables few p. (good k ys fs start sound of defined tables p few).sound

pub returns-clause-below : goal.returns-clause-below
returns-clause-below c = λ k ys fs start nodes ps sound of defined tables few p. (good k ys fs start sound of defined tables p few).below
