use Rattle.std.proofs.Common.{refl}
use Rattle.a68_coerce.specs.Paths.FirmTo.{meekly}
use Rattle.a68_coerce.proofs.Orders.{no_bits}
use Rattle.a68_coerce.proofs.strong.widened.Goals as goal

pub returns : goal.returns
returns c = (c.is_bools.ensures.0 c.if-not-is_bools.false, (_, meekly (rw c.as_it_stands.ensures at c.in-Some.ensures), refl))

pub returns-in_default : goal.returns-in_default
returns-in_default c = λ p w. no_bits c.args.modes.now c.args.from c.requires.nodes (rw c.as_it_stands.ensures at c.in_default.ensures) w.1.0 w.1.1
