use Rattle.std.proofs.Common.{arith}
use Rattle.std.proofs.lemmas.Grind.{elements}
use Rattle.a68_exec.proofs.exec.does_at.Goals as goal

pub returns-in_err-instr : goal.returns-in_err-instr
returns-in_err-instr c = grind (arith, elements)

pub returns : goal.returns
returns c = grind (arith, elements)
