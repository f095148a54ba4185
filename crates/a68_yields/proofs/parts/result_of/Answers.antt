use Rattle.std.proofs.Common.{◌∙◌, length, sym}
use Rattle.a68_yields.proofs.Within.{last_within, shape_within}
use Rattle.a68_yields.proofs.parts.result_of.Goals as goal

pub returns-in-Proc-clause-there : goal.returns-in-Proc-clause-there
returns-in-Proc-clause-there c = last_within (length c.args.modes.now) c.in-Proc.result c.in-Proc.params
    (shape_within c.args.modes.now c.shape.ensures.nodes c.args.mode _ c.requires (sym c.shape.ensures.shape ∙ c.in-Proc.is))
