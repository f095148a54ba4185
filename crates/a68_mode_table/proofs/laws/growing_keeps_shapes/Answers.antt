use Rattle.a68_mode_table.proofs.Numbers.{numbers_keep}
use Rattle.a68_mode_table.proofs.Once.{row_keeps, shape_keeps}
use Rattle.a68_mode_table.proofs.laws.growing_keeps_shapes.Goals as goal

pub returns : goal.returns
returns c = record { shapes = shape_keeps; rows = row_keeps; numbers = numbers_keep }
