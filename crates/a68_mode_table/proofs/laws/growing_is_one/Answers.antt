use Rattle.a68_mode_table.proofs.Numbers.{numbers_one}
use Rattle.a68_mode_table.proofs.Once.{rows_one, shapes_one}
use Rattle.a68_mode_table.proofs.laws.growing_is_one.Goals as goal

pub returns : goal.returns
returns c = record { shapes = shapes_one; rows = rows_one; numbers = numbers_one }
