use Rattle.std.proofs.Common.{◌+◌, length}
use Rattle.a68_code.specs.Walk.{unknown}
use Rattle.a68_code.proofs.Ways.{Halfway}
use Rattle.a68_code.proofs.code.Code.heights.Given as goal

abbrev pub invariant-loop-at : goal.invariant-loop-at
invariant-loop-at l = Halfway l.self l.whose l.walk.heights.items l.walk.todo.items

abbrev pub decreases-loop-at : goal.decreases-loop-at
decreases-loop-at l = unknown l.walk.heights.items + length l.walk.todo.items
