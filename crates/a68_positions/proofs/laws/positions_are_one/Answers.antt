use Rattle.std.proofs.Common.{refl}
use Rattle.a68_positions.proofs.Alone.{one_run}
use Rattle.a68_positions.proofs.laws.positions_are_one.Goals as goal

pub returns : goal.returns
returns c = λ k ys fs start nodes others ps qs sound of defined tables few less p q. one_run k ys fs start sound of defined tables p q refl few less
