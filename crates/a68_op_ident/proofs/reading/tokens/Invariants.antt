use Rattle.a68_op_ident.proofs.Parts.{ReadTo}
use Rattle.a68_op_ident.proofs.reading.tokens.Given as goal

abbrev pub invariant-loop-i : goal.invariant-loop-i
invariant-loop-i l = ReadTo l.nodes l.ranges l.parts l.formula l.i l.tokens.items l.from l.after_operand
