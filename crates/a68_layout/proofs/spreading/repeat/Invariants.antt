use Rattle.std.proofs.Common.{◌≡◌, ◌+◌, ◌*◌, map}
use Rattle.a68_layout.specs.Views.{for_each}
use Rattle.a68_layout.proofs.spreading.repeat.Given as goal

abbrev pub invariant-loop-k : goal.invariant-loop-k
invariant-loop-k l = l.cells.items ≡ for_each 0 l.k (λ k. map (λ cell. cell + k * l.dim.stride) l.fn.cells.items)
