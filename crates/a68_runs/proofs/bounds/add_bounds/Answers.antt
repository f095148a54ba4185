use Rattle.std.proofs.Common.{arith}
use Rattle.a68_runs.proofs.Listing.{most_is}
use Rattle.a68_runs.proofs.Opening.{too_many}
use Rattle.a68_runs.proofs.bounds.add_bounds.Goals as goal

pub returns-then-len-ge-MOST_BOUNDS : goal.returns-then-len-ge-MOST_BOUNDS
returns-then-len-ge-MOST_BOUNDS c =
    too_many c.args.program.now c.args.first c.args.bounds.now.items c.loop-next.bounds.items c.loop-next.opens (omega (arith, most_is)) c.loop-next.invariant
