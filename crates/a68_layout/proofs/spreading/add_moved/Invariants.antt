use Rattle.std.proofs.Common.{◌≡◌, ◌+◌, ◌++◌, map, take}
use Rattle.a68_layout.proofs.spreading.add_moved.Given as goal

abbrev pub invariant-loop-i : goal.invariant-loop-i
invariant-loop-i l = l.cells.items ≡ l.fn.cells.items ++ map (λ cell. cell + l.by) (take l.i l.fn.cells.items)
