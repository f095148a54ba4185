use Rattle.std.proofs.Common.{length}
use Rattle.std.specs.List.{All}
use Rattle.a68_coerce.specs.Below.{IsLeafBelow}
use Rattle.a68_equiv_tests.proofs.coerce.leaves.Given as goal

abbrev pub invariant-loop-word : goal.invariant-loop-word
invariant-loop-word g l = All (IsLeafBelow (length l.modes)) l.leaves.items
