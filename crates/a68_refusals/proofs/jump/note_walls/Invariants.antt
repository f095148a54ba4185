use Rattle.std.proofs.Common.{◌≡◌}
use Rattle.a68_refusals.specs.Jumps.{walls_by}
use Rattle.a68_refusals.proofs.jump.note_walls.Given as goal

abbrev pub invariant-loop-node : goal.invariant-loop-node
invariant-loop-node l = l.walls ≡ walls_by l.tree l.node
