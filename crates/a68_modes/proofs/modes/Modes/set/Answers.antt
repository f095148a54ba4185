use Rattle.a68_modes.proofs.Holding.{changed}
use Rattle.a68_modes.proofs.Measuring.{none-laid}
use Rattle.a68_modes.proofs.modes.Modes.set.Goals as goal

pub invariant_of-self : goal.invariant_of-self
invariant_of-self c = (
  changed c.self.inside.items.items c.args.id c.args.shape c.self.invariant.0 (rw c.self.view_is c.requires.blank) (rw c.self.view_is c.requires.there) (rw c.self.view_is c.requires.within),
  none-laid _ c.clear.new.self.items c.clear.ensures.items,
)
