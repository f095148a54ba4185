use Rattle.std.proofs.Common.{arith}
use Rattle.a68_ops.proofs.Powers.{same_power}
use Rattle.a68_ops.proofs.integers.small_exponent.Goals as goal

pub returns-then-exponent-gt64 : goal.returns-then-exponent-gt64
returns-then-exponent-gt64 c = λ a. same_power a _ _ (omega arith) (omega arith) (omega arith)
