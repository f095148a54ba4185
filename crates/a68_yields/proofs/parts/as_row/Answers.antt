use Rattle.std.proofs.Common.{◌∙◌, ◌<◌, length, sym}
use Rattle.a68_coerce.proofs.Walking.{ref_below}
use Rattle.a68_yields.proofs.Within.{shape_within}
use Rattle.a68_yields.proofs.parts.as_row.Goals as goal

pub shape-requires-in-Ref : goal.shape-requires-in-Ref
shape-requires-in-Ref c = ref_below c.args.modes.now c.shape.ensures.nodes c.args.mode c.in-Ref.of c.requires (sym c.shape.ensures.shape ∙ c.in-Ref.is)

pub returns-in-Ref-clause-there : goal.returns-in-Ref-clause-there
returns-in-Ref-clause-there c =
    let below : c.in-Ref.of < length c.args.modes.now = ref_below c.args.modes.now c.shape.ensures.nodes c.args.mode c.in-Ref.of c.requires (sym c.shape.ensures.shape ∙ c.in-Ref.is) in
    c.row_of.ensures.within (length c.args.modes.now) (shape_within c.args.modes.now c.shape.ensures.nodes c.in-Ref.of _ below (sym c.shape-in-Ref.ensures.shape))
