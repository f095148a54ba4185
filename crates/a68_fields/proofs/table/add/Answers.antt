use Rattle.std.proofs.Common.{rules}
use Rattle.a68_fields.proofs.Adding.{apart}
use Rattle.a68_fields.proofs.table.add.Goals as goal

pub returns : goal.returns
returns c =
    let u = c.in_ok-insert.ensures.updates in
    (search rules, u.1, λ n t h. u.2 (n, t) (apart n t c.args.node c.args.tag h))
