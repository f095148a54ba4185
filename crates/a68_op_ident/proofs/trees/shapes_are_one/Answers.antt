use Rattle.a68_op_ident.proofs.One.{one_shape, no_shape}
use Rattle.a68_op_ident.proofs.trees.shapes_are_one.Goals as goal

pub returns-clause-one : goal.returns-clause-one
returns-clause-one c = λ flat one other once. one_shape flat (c.priorities_are_one.ensures flat once) one other

pub returns-clause-apart : goal.returns-clause-apart
returns-clause-apart c = λ flat shaped why once. no_shape flat (c.priorities_are_one.ensures flat once) shaped why
