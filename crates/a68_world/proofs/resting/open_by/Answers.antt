use Rattle.std.proofs.Common.{◌∙◌, sym}
use Rattle.a68_world.specs.Resting.{written}
use Rattle.a68_world.proofs.RestingOn.{opens_none, opens_some}
use Rattle.a68_world.proofs.resting.open_by.Goals as goal

pub returns-in_default : goal.returns-in_default
returns-in_default c = opens_none (written c.args.act) c.args.rests.now (sym c.written.ensures ∙ c.in_default.is)

pub returns : goal.returns
returns c = opens_some (written c.args.act) c.in-Some.cell c.args.rests.now c.open.new.self (sym c.written.ensures ∙ c.in-Some.is) c.open.ensures
