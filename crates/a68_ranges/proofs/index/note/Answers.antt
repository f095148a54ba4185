use Rattle.std.proofs.Common.{rules}
use Rattle.a68_ranges.proofs.Keys.{apart}
use Rattle.a68_ranges.proofs.index.note.Goals as goal

pub returns : goal.returns
returns c =
    let u = c.in_ok-insert.ensures.updates in
    (search rules, u.1, λ r n h. u.2 (r, n) (apart r n c.args.range c.args.name h))
