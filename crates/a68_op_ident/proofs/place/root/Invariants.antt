use Rattle.a68_op_ident.specs.Inner.{IsRoot}
use Rattle.a68_op_ident.proofs.place.root.Given as goal

abbrev pub invariant-loop-k : goal.invariant-loop-k
invariant-loop-k l = IsRoot l.tokens l.k l.root
