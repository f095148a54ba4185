use Rattle.std.proofs.Common.{rules}
use Rattle.a68_ranges.proofs.Keys.{apart}
use Rattle.a68_frames.proofs.slots.place_slot.Goals as goal

pub returns : goal.returns
returns c =
    let u = c.in_ok-insert.ensures.updates in
    (search rules, u.1, λ r d h. u.2 (r, d) (apart r d c.args.range c.args.id h))
