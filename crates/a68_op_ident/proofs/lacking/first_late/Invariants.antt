use Rattle.a68_op_ident.specs.Inner.{IsLeastNumber, IsLateToken}
use Rattle.a68_op_ident.proofs.lacking.first_late.Given as goal

abbrev pub invariant-loop-k : goal.invariant-loop-k
invariant-loop-k l = IsLeastNumber (IsLateToken l.tokens l.k) l.late
