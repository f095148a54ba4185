use Rattle.a68_coerce.proofs.balancing.leaf_leads.Goals as goal

pub returns-in-Mode : goal.returns-in-Mode
returns-in-Mode c = rw c.in-Mode.is c.leads.ensures
