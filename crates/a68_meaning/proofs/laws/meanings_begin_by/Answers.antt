use Rattle.a68_meaning.proofs.Beginning.{misused_by}
use Rattle.a68_meaning.proofs.laws.meanings_begin_by.Goals as goal

pub returns : goal.returns
returns c = misused_by c.declarations_begin_by.ensures c.first_broken_begins_by.ensures
