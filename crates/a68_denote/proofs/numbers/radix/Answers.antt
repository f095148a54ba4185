use Rattle.std.proofs.Common.{arith}
use Rattle.std.proofs.lemmas.Grind.{common_steps}
use Rattle.a68_denote.proofs.numbers.radix.Goals as goal

pub returns-in-50 : goal.returns-in-50
returns-in-50 c = grind (arith, common_steps) steps 100000
