use Rattle.std.proofs.Common.{◌≡◌, ◌++◌, drop}
use Rattle.a68_nodes.specs.Pieces.{all_parts}
use Rattle.a68_nodes.proofs.frames.add_parts.Given as goal

abbrev pub invariant-loop-id : goal.invariant-loop-id
invariant-loop-id l = l.pieces.items ++ all_parts (drop l.id-index l.ids) ≡ l.fn.pieces.items ++ all_parts l.ids
