use Rattle.std.proofs.Common.{◌≡◌, drop}
use Rattle.a68_refusals.specs.Jumps.{set_all}
use Rattle.a68_refusals.proofs.jump.note_all.Given as goal

abbrev pub invariant-loop-node : goal.invariant-loop-node
invariant-loop-node l = set_all (drop l.node-index l.nodes) l.wall l.walls ≡ set_all l.nodes l.wall l.initial.walls
