use Rattle.std.proofs.Common.{◌≡◌, take}
use Rattle.a68_code.proofs.code.Instrs.copy.Given as goal

abbrev pub invariant-loop-instr : goal.invariant-loop-instr
invariant-loop-instr l = l.items.items ≡ take l.instr-index l.self
