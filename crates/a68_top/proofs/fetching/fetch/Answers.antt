use Rattle.std.proofs.Common.{rules}
use Rattle.a68_top.proofs.fetching.fetch.Goals as goal

pub begin-requires : goal.begin-requires
begin-requires g c = c.requires

pub returns-in-Ok-clause-text : goal.returns-in-Ok-clause-text
returns-in-Ok-clause-text g c = search rules
