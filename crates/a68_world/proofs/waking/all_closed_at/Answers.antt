use Rattle.std.proofs.Common.{sym, ◌∙◌, ◌+◌, ◌-◌, arith}
use Rattle.a68_world.proofs.Rousing.{too_many, one_open}
use Rattle.a68_world.proofs.waking.all_closed_at.Goals as goal

pub returns-then-count-seats : goal.returns-then-count-seats
returns-then-count-seats c = sym (too_many c.args.seats.now c.args.first c.args.count (omega (arith, c.if-count-seats.true)))

pub returns-then-not-closed_at : goal.returns-then-not-closed_at
returns-then-not-closed_at c =
    sym (one_open c.args.seats.now c.args.first c.args.count (c.args.first + (c.args.count - 1 - c.loop-i.i)) (omega arith) (omega (arith, c.loop-i-test.true)) (sym c.closed_at.ensures ∙ c.if-not-closed_at.true))
