use Rattle.a68_parse.proofs.Beginnings.{nodes_within}
use Rattle.a68_parse.proofs.program.trees_lie_in_texts.Goals as goal

pub returns : goal.returns
returns c = nodes_within
