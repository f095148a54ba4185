use Rattle.std.proofs.Common.{arith, ◌<◌, length}
use Rattle.a68_modes.proofs.Holding.{pushed}
use Rattle.a68_modes.proofs.Measuring.{none-laid}
use Rattle.a68_modes.proofs.modes.Modes.add.Goals as goal

pub invariant_of-self : goal.invariant_of-self
invariant_of-self c =
    let room : length c.self.inside.items.items < 16777216 = omega arith in (
      pushed _ c.self.inside.items.items c.push.new.self.items c.args.shape c.self.invariant.0 (rw c.self.view_is c.requires.within) room c.push.ensures.items,
      none-laid c.push.new.self.items c.clear.new.self.items c.clear.ensures.items,
    )
