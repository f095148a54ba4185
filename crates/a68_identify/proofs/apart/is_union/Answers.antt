use Rattle.std.proofs.Common.{◌∙◌, ap}
use Rattle.a68_equiv.specs.Unfolding.{is_union}
use Rattle.a68_modes.specs.Nodes.{shape_at}
use Rattle.a68_identify.proofs.apart.is_union.Goals as goal

pub returns : goal.returns
returns c = c.is_union_shape.ensures ∙ ap is_union (c.shape.ensures.shape ∙ ap (shape_at c.args.modes.now) c.behind.ensures.node)
