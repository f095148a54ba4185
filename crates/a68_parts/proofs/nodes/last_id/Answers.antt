use Rattle.std.proofs.Common.{arith, sym}
use Rattle.a68_parts.proofs.Choosing.{last-id-is}
use Rattle.a68_parts.proofs.nodes.last_id.Goals as goal

pub returns : goal.returns
returns c = sym (last-id-is c.args.ids.now (omega arith))
