use Rattle.a68_definitions.proofs.Alone.{defined_longer}
use Rattle.a68_definitions.proofs.laws.definitions_keep_shapes.Goals as goal

pub returns-clause-longer : goal.returns-clause-longer
returns-clause-longer c = λ tree of start nodes table p. (defined_longer tree of start p).long

pub returns-clause-kept : goal.returns-clause-kept
returns-clause-kept c = λ tree of start nodes table p. (defined_longer tree of start p).kept
