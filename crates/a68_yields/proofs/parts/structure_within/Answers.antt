use Rattle.std.proofs.Common.{◌∙◌, sym}
use Rattle.a68_coerce.proofs.Walking.{row_below}
use Rattle.a68_yields.proofs.parts.structure_within.Goals as goal

pub shape-requires-in-Rows : goal.shape-requires-in-Rows
shape-requires-in-Rows c = row_below c.args.modes.now c.shape.ensures.nodes c.args.node c.in-Rows.dims c.in-Rows.of c.in-Rows.flex c.requires (sym c.shape.ensures.shape ∙ c.in-Rows.is)
