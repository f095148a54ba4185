use Rattle.a68_partition.proofs.Numbering.{apart_keys}
use Rattle.a68_partition.proofs.rounds.numbered.Goals as goal

pub returns-clause-others : goal.returns-clause-others
returns-clause-others c = λ q apart. c.in_ok-insert.ensures.updates.2 q (apart_keys c.args.key.items q.items apart)
