use Rattle.std.proofs.Common.{◌≤◌, length, sym, arith}
use Rattle.a68_ranges.proofs.Indexing.{declares_nothing}
use Rattle.a68_identify.proofs.reading.declared_by.Goals as goal

pub returns-else-range-len : goal.returns-else-range-len
returns-else-range-len c =
    let out : length c.args.tree.now.nodes ≤ c.args.range = omega arith in
    sym (declares_nothing c.args.tree.now c.args.range out)
