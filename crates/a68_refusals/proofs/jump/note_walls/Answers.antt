use Rattle.std.proofs.Common.{◌∙◌, ap, sym, add-one}
use Rattle.a68_refusals.specs.Jumps.{walls_by, with_walls}
use Rattle.a68_refusals.proofs.jump.note_walls.Goals as goal

pub loop-node-preserved : goal.loop-node-preserved
loop-node-preserved c = c.note_parts.ensures ∙ ap (with_walls c.args.tree.now c.loop-node.node) c.loop-node.invariant ∙ ap (walls_by c.args.tree.now) (sym (add-one c.loop-node.node))
