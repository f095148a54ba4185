use Rattle.std.proofs.Common.{inr, refl}
use Rattle.a68_acts.specs.declared.want.Want.TheVariants as want
use Rattle.a68_world.proofs.RestingOn.{closes_at}
use Rattle.a68_world.proofs.resting.close_by.Goals as goal

pub returns-in_default : goal.returns-in_default
returns-in_default c = inr refl

pub returns-then-waits : goal.returns-then-waits
returns-then-waits c = closes_at c.args.rests.now c.close.new.self c.args.store.now (want.Down c.in-Some.cell) c.in-Some.cell c.waits.result refl c.waits.ensures c.if-waits.true c.close.ensures

pub returns-else-waits : goal.returns-else-waits
returns-else-waits c = inr refl
