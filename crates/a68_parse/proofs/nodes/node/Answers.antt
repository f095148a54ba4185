use Rattle.std.proofs.Common.{rules}
use Rattle.a68_parse.proofs.nodes.node.Goals as goal

pub returns : goal.returns
returns c = search rules
