use Rattle.std.proofs.Common.{◌∙◌}
use Rattle.a68_ops.proofs.Moving.{right_by}
use Rattle.a68_ops.proofs.bits.moved_right.Goals as goal

pub returns : goal.returns
returns c =
    c.unbounded_shr.ensures ∙ right_by c.args.bits c.args.places c.min.result c.ranges.bits.fits c.min.ensures
