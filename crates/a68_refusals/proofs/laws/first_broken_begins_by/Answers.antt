use Rattle.a68_refusals.proofs.Beginning.{first_by}
use Rattle.a68_refusals.proofs.laws.first_broken_begins_by.Goals as goal

pub returns : goal.returns
returns c = first_by
