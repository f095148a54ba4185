use Rattle.a68_notes.proofs.Leading.{leads_on}
use Rattle.a68_notes.proofs.laws.paths_lead.Goals as goal

pub returns : goal.returns
returns c = leads_on
