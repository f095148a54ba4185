use Rattle.std.proofs.Common.{◌≡◌, ◌<◌, ℕ, true}
use Rattle.a68_modes.specs.Nodes.{shape_at}
use Rattle.a68_parts.specs.Rowing.{stands}
use Rattle.a68_parts.proofs.rowing.in_order.Given as goal

-- the modes before one stand in order
abbrev pub invariant-loop-mode : goal.invariant-loop-mode
invariant-loop-mode l = (m : ℕ) → m < l.mode → stands l.dims l.of l.fewer m (shape_at l.modes m) ≡ true
