use Rattle.std.proofs.Common.{rules, arith, ◌≡◌, ◌<◌, ◌∙◌, ap, of_z, to_z, unsigned_abs, int_rem, FitsSigned}
use Rattle.std.specs.Int.{w128}
use Rattle.std.proofs.lemmas.Int.{ints, to_z-of_z, rem_is}
use Rattle.a68_ops.specs.Integers.{lifted}
use Rattle.a68_ops.specs.Yields.{long}
use Rattle.a68_ops.proofs.Dividing.{rest_by}
use Rattle.a68_ops.proofs.longs.modulo.Goals as goal

pub returns : goal.returns
returns c =
    let right : to_z w128 (of_z w128 c.args.right) ≡ c.args.right = to_z-of_z w128 c.args.right c.ranges.right in
    let here : FitsSigned w128 c.lifted.result = search rules in
    let nonzero : 0 < unsigned_abs c.args.right = grind (arith, ints) in
    let value : c.lifted.result ≡ lifted (int_rem c.args.left c.args.right) c.args.right =
    rw (rem_is w128 c.args.left c.args.right c.ranges.left c.ranges.right, right) at c.lifted.ensures in
    c.long-2.ensures ∙ ap long (to_z-of_z w128 c.lifted.result here ∙ value) ∙ rest_by long c.args.left c.args.right nonzero
