use Rattle.std.proofs.Common.{◌∙◌}
use Rattle.a68_ops.proofs.Moving.{left_by}
use Rattle.a68_ops.proofs.bits.moved_left.Goals as goal

pub returns : goal.returns
returns c = c.unbounded_shl.ensures ∙ left_by c.args.bits c.args.places c.min.result c.min.ensures
