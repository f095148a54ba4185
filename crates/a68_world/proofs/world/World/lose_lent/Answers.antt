use Rattle.std.proofs.Common.{refl, inr, sym, subst}
use Rattle.a68_world.specs.Run.{Run}
use Rattle.a68_world.specs.Turns.{GoesOn}
use Rattle.a68_world.proofs.LentActs.{lost_sound}
use Rattle.a68_world.proofs.world.World.lose_lent.Goals as goal

pub invariant_of-self : goal.invariant_of-self
invariant_of-self c =
    let s = c.self.inside in
    lost_sound s c.self.invariant (subst (λ (r : Run). GoesOn r) (sym c.self.view_is) c.requires.goes_on)

pub returns : goal.returns
returns c =
    let goes = c.requires.goes_on in
    (goes.unended, record { why = inr c.requires.due; after = rw (← c.self.view_is) refl })
