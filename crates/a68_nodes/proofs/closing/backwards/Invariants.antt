use Rattle.std.proofs.Common.{length}
use Rattle.a68_nodes.specs.Views.{views}
use Rattle.a68_nodes.proofs.Backwards.{Done}
use Rattle.a68_nodes.proofs.closing.backwards.Given as goal

abbrev pub invariant-loop-piece : goal.invariant-loop-piece
invariant-loop-piece l = Done (views l.fn.drafts.items) l.first l.fn.pieces.items l.pieces.items (views l.drafts.items) l.ids.items

abbrev pub decreases-loop-piece : goal.decreases-loop-piece
decreases-loop-piece l = length l.pieces.items
