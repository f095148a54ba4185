use Rattle.a68_elab.proofs.Beginning.{program_begins}
use Rattle.a68_elab.proofs.constructs_begin_by.Goals as goal

pub returns : goal.returns
returns c = program_begins
