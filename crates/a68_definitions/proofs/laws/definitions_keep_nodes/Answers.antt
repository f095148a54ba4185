use Rattle.a68_definitions.proofs.Alone.{defined_keeps}
use Rattle.a68_definitions.proofs.laws.definitions_keep_nodes.Goals as goal

pub returns : goal.returns
returns c = λ tree of start nodes table sound below few p. defined_keeps tree of start sound below p few
