use Rattle.std.proofs.Common.{sym, arith}
use Rattle.a68_ranges.proofs.Indexing.{declares_nothing}
use Rattle.a68_frames.proofs.outlook.declared_at.Goals as goal

pub returns-else-range-len : goal.returns-else-range-len
returns-else-range-len c = sym (declares_nothing c.args.tree.now c.args.range (omega (arith, c.len.ensures, c.if-range-len.false)))
