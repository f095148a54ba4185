use Rattle.std.proofs.Common.{arith}
use Rattle.a68_ops.proofs.Chars.{length_of_values}
use Rattle.a68_ops.proofs.texts.row_of_times.Goals as goal

pub row_of-requires : goal.row_of-requires
row_of-requires c =
    rw (c.in-Ok.ensures, c.in_ok-items.ensures.items) (omega (arith, length_of_values c.args.count c.args.chars.now))
