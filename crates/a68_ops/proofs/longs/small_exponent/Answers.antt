use Rattle.std.proofs.Common.{arith}
use Rattle.a68_ops.proofs.Powers.{same_long_power}
use Rattle.a68_ops.proofs.longs.small_exponent.Goals as goal

pub returns-then-exponent-gt128 : goal.returns-then-exponent-gt128
returns-then-exponent-gt128 c = λ a. same_long_power a _ _ (omega arith) (omega arith) (omega arith)
