use Rattle.a68_positions.proofs.Alone.{run_longer}
use Rattle.a68_positions.proofs.laws.positions_keep_shapes.Goals as goal

pub returns-clause-longer : goal.returns-clause-longer
returns-clause-longer c = λ k ys fs start nodes ps p. (run_longer k ys fs start p).long

pub returns-clause-kept : goal.returns-clause-kept
returns-clause-kept c = λ k ys fs start nodes ps p. (run_longer k ys fs start p).kept
