use Rattle.std.proofs.Common.{◌∙◌, sym}
use Rattle.a68_coerce.proofs.Walking.{ref_below}
use Rattle.a68_yields.proofs.parts.as_structure.Goals as goal

pub structure_within-requires : goal.structure_within-requires
structure_within-requires c = ref_below c.args.modes.now c.shape.ensures.nodes c.args.mode c.in-Ref.of c.requires (sym c.shape.ensures.shape ∙ c.in-Ref.is)
