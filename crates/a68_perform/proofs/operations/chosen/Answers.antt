use Rattle.a68_perform.proofs.Choosing.{among_these, above_these, none_of_these, below_these}
use Rattle.a68_perform.proofs.operations.chosen.Goals as goal

pub returns-in-Ok : goal.returns-in-Ok
returns-in-Ok c = among_these c.args.parts c.args.number c.ranges.number c.in-Ok.number c.in-Ok.ensures c.if-number-ge1.true c.if-number-parts.true

pub returns-in_default : goal.returns-in_default
returns-in_default c = above_these c.args.parts c.args.number c.ranges.number c.in-Ok.number c.in-Ok.ensures c.if-number-parts.false

pub returns-in_default-2 : goal.returns-in_default-2
returns-in_default-2 c = none_of_these c.args.parts c.args.number c.ranges.number c.in-Ok.number c.in-Ok.ensures c.if-number-ge1.false

pub returns-in_default-3 : goal.returns-in_default-3
returns-in_default-3 c = below_these c.args.parts c.args.number c.ranges.number c.in_default.ensures
