use Rattle.std.proofs.Common.{◌∙◌, sym}
use Rattle.a68_world.proofs.RestingOn.{one_holds, one_none, one_rests}
use Rattle.a68_world.proofs.resting.rest_shown.Goals as goal

pub returns-then-shows_idle : goal.returns-then-shows_idle
returns-then-shows_idle c = one_rests c.args.ask.now c.args.store.now c.args.k c.args.rests.now c.rest.new.self (sym c.shows_idle.ensures ∙ c.if-shows_idle.true) c.rest.ensures

pub returns-in_default : goal.returns-in_default
returns-in_default c = one_none c.args.ask.now c.args.store.now c.args.k c.args.rests.now

pub returns : goal.returns
returns c = one_holds c.args.ask.now c.args.store.now c.args.k c.in-Some.cell c.args.rests.now c.hold.new.self c.in-Some.ensures c.hold.ensures
