use Rattle.a68_coerce.proofs.Orders.{goes_leads}
use Rattle.a68_coerce.proofs.sorts.route.Goals as goal

pub returns-in-Soft : goal.returns-in-Soft
returns-in-Soft c = goes_leads c.args.modes.now c.args.sort c.args.from c.args.to c.onward.result c.in-Soft.is c.onward.ensures
