use Rattle.std.proofs.Common.{length}
use Rattle.std.specs.List.{All}
use Rattle.a68_coerce.specs.Below.{IsLeafBelow}
use Rattle.a68_scope_tests.proofs.operators.leaves.Given as goal

abbrev pub invariant-loop-word : goal.invariant-loop-word
invariant-loop-word g l = All (IsLeafBelow (length l.found.modes)) l.leaves.items
